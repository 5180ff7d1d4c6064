-- What a tracker that has learned facts answers, and what it has learned after one more fact.
use Rattle.std.proofs.Common.{◌≡◌, ℕ, Bool, true, false, cond, ◌||◌, List, [], ◌∷◌, ◌++◌, length, Option, Some, None, if◌then◌else◌, refl, ap, ap₂, sym, ◌∙◌, subst, arith}
use Rattle.std.specs.Prelude.{◌&&◌}
use Rattle.std.specs.List.{list_any}
use Rattle.std.specs.Ordering.{nat_cmp}
use Rattle.std.specs.Str.{bytes_eq}
use Rattle.std.specs.Cmp.{eq_by_cmp_equiv}
use Rattle.std.specs.Cmp.Lexicographic.{slice_cmp}
use Rattle.std.specs.FinMap.{empty, get, get-empty, get-insert, insert, same_map}
use Rattle.std.proofs.lemmas.Cmp.{nat_list_cmp_total}
use Rattle.std.proofs.lemmas.Map.Lookups.{exact_bytes}
use Rattle.std.proofs.lemmas.Map.Text.{is_eq-slice_cmp}
use Rattle.dbus_names.specs.Texts.{Text}
use Rattle.dbus_names.specs.Names.{is_unique, is_well_known}
use Rattle.name_patterns.specs.Patterns.{covers}
use Rattle.policy_args.specs.Policy.{Policy, at_least, greater, level}
use Rattle.policy_args.specs.Levels.{applies_to, covers_name_of, entries, level_by, level_of, level_of_id}
use Rattle.policy_args.specs.declared.Level.{Level}
use Rattle.policy_args.specs.declared.Level.TheVariants.{None as Hidden, See, Talk, Own}
use Rattle.policy_args.specs.declared.entry.Entry.{Entry}
use Rattle.policy_args.specs.declared.fact.Fact.{Fact}
use Rattle.policy_args.specs.declared.fact.Fact.TheVariants.{Owned, SelfId, Met}
use Rattle.byte_lists.proofs.Bytes.{bytes_eq-refl, bytes_eq-true}
use Rattle.unique_names.specs.Known.{Known}
use Rattle.unique_names.specs.Merged.{merged_from}
use Rattle.unique_names.specs.Taught.{AreNumbers, Fits, Ids, Taught, kept_level, kept_numbers, known_level, known_numbers, known_of, learned, owned_numbers, owning, raised}
use Rattle.unique_names.proofs.Levels.{greater-hidden, hidden-numbers, level-last, not-seen, numbers-last, uncovered}
use Rattle.unique_names.proofs.Merging.{Agree, always-agree, merged-numbers, merged-within, same-numbers}

-- ---- what is known

-- what is kept at a level and with numbers
made : Level → List ℕ → Option Known
made l ns = if at_least See l then Some (record { level = l; numbers = ns }) else None

pub known-level-of : (policy : Policy) (facts : List Fact) (id : Text) → known_level (known_of policy facts id) ≡ level_of_id policy facts id
known-level-of policy facts id = by (at_least See (level_of_id policy facts id)) refl
  where
    by : (b : Bool) → at_least See (level_of_id policy facts id) ≡ b →
        known_level (if b then Some (record { level = level_of_id policy facts id; numbers = owned_numbers policy facts id }) else None) ≡ level_of_id policy facts id
    by true is = refl
    by false is = sym (not-seen (level_of_id policy facts id) is)

pub known-numbers-of : (policy : Policy) (facts : List Fact) (id : Text) → known_numbers (known_of policy facts id) ≡ owned_numbers policy facts id
known-numbers-of policy facts id = by (at_least See (level_of_id policy facts id)) refl
  where
    by : (b : Bool) → at_least See (level_of_id policy facts id) ≡ b →
        known_numbers (if b then Some (record { level = level_of_id policy facts id; numbers = owned_numbers policy facts id }) else None) ≡ owned_numbers policy facts id
    by true is = refl
    by false is = sym (hidden-numbers policy facts id (not-seen (level_of_id policy facts id) is))

-- ---- what is answered

pub exact-level : (ids : Ids) (policy : Policy) (facts : List Fact) (text : Text) → Taught ids policy facts → kept_level policy ids text ≡ level_of policy facts text
unfolding level_of
exact-level ids policy facts text taught =
    ap (λ l. if is_well_known text then level policy text else (if is_unique text then l else Hidden)) (ap known_level (taught.each text) ∙ known-level-of policy facts text)

-- the entries of a text that none covers are those of its names
pub known-entries : (policy : Policy) (facts : List Fact) (text : Text) → list_any (λ e. covers e.pattern text) policy.entries ≡ false → owned_numbers policy facts text ≡ entries policy facts text
unfolding entries
known-entries policy facts text none = sym (same-numbers (applies_to facts text) (λ e. list_any (covers_name_of e text) facts) 1 policy.entries (agree policy.entries none))
  where
    agree : (es : List Entry) → list_any (λ e. covers e.pattern text) es ≡ false → Agree (applies_to facts text) (λ e. list_any (covers_name_of e text) facts) es
    agree [] none = tt
    agree (e ∷ es) none =
        let parts = neither (covers e.pattern text) (list_any (λ x. covers x.pattern text) es) none in
        (ap (λ b. b || list_any (covers_name_of e text) facts) parts.0, agree es parts.1)
      where
        neither : (a b : Bool) → (a || b) ≡ false → (a ≡ false) × (b ≡ false)
        neither true b e = absurd cc
        neither false b e = (refl, e)

pub merged-entries : (policy : Policy) (facts : List Fact) (text : Text) → merged_from text 1 policy.entries (owned_numbers policy facts text) ≡ entries policy facts text
unfolding entries
merged-entries policy facts text = merged-numbers text (λ e. list_any (covers_name_of e text) facts) 1 policy.entries

-- what is kept of a text
pub numbers-of : (ids : Ids) (policy : Policy) (facts : List Fact) (text : Text) → Taught ids policy facts → known_numbers (get ids text) ≡ owned_numbers policy facts text
numbers-of ids policy facts text taught = ap known_numbers (taught.each text) ∙ known-numbers-of policy facts text

pub exact-entries : (ids : Ids) (policy : Policy) (facts : List Fact) (text : Text) → (is_unique text ≡ true → list_any (λ e. covers e.pattern text) policy.entries ≡ false) → Taught ids policy facts →
    kept_numbers policy ids text ≡ entries policy facts text
exact-entries ids policy facts text none taught = by (is_unique text) refl
  where
    at : known_numbers (get ids text) ≡ owned_numbers policy facts text
    at = numbers-of ids policy facts text taught

    by : (b : Bool) → is_unique text ≡ b → (if b then known_numbers (get ids text) else merged_from text 1 policy.entries (known_numbers (get ids text))) ≡ entries policy facts text
    by true is = at ∙ known-entries policy facts text (none is)
    by false is = ap (merged_from text 1 policy.entries) at ∙ merged-entries policy facts text

pub known-within : (ids : Ids) (policy : Policy) (text : Text) → Fits ids policy → AreNumbers (length policy.entries) (known_numbers (get ids text))
known-within ids policy text fits = by (get ids text) refl
  where
    by : (o : Option Known) → get ids text ≡ o → AreNumbers (length policy.entries) (known_numbers o)
    by None is = refl
    by (Some k) is = fits.each text k is

pub all-within : (policy : Policy) (text : Text) (known : List ℕ) → AreNumbers (length policy.entries) (merged_from text 1 policy.entries known)
all-within policy text known = merged-within text (length policy.entries) 1 policy.entries known (omega arith) (omega arith)

pub kept-within : (ids : Ids) (policy : Policy) (text : Text) → Fits ids policy → AreNumbers (length policy.entries) (kept_numbers policy ids text)
kept-within ids policy text fits = by (is_unique text)
  where
    by : (b : Bool) → AreNumbers (length policy.entries) (if b then known_numbers (get ids text) else merged_from text 1 policy.entries (known_numbers (get ids text)))
    by true = known-within ids policy text fits
    by false = all-within policy text (known_numbers (get ids text))

-- ---- nothing is known at first

pub start-taught : (policy : Policy) → Taught (empty {X = Known} {R = slice_cmp nat_cmp}) policy []
start-taught policy = record { each = λ id. get-empty (slice_cmp nat_cmp) id }

pub start-fits : (policy : Policy) → Fits (empty {X = Known} {R = slice_cmp nat_cmp}) policy
start-fits policy = record { each = λ id k at. absurd (let no : None ≡ Some k = sym (get-empty (slice_cmp nat_cmp) id) ∙ at in cc) }

-- ---- one fact more

-- what is at a text after an insertion
pub inserted : (ids : Ids) (id : Text) (k : Known) (q : Text) → get (insert ids id k) q ≡ (if bytes_eq id q then Some k else get ids q)
inserted ids id k q =
    get-insert nat_list_cmp_total ids id k q
    ∙ ap (λ b. cond b (Some k) (get ids q)) (sym (sym (is_eq-slice_cmp id q) ∙ (eq_by_cmp_equiv nat_list_cmp_total).symm id q))

-- what is known of a unique name that the fact isn't about
untold : (policy : Policy) (facts : List Fact) (fact : Fact) (q : Text) → level_by policy q fact ≡ Hidden → Agree (λ e. covers_name_of e q fact || list_any (covers_name_of e q) facts) (λ e. list_any (covers_name_of e q) facts) policy.entries →
    known_of policy (facts ++ fact ∷ []) q ≡ known_of policy facts q
unfolding made
untold policy facts fact q none same =
    ap₂ made (level-last policy facts fact q ∙ ap (greater (level_of_id policy facts q)) none ∙ greater-hidden (level_of_id policy facts q))
    (numbers-last policy facts fact q ∙ same-numbers _ _ 1 policy.entries same)

seen-with : (a b : Level) → at_least See b ≡ true → at_least See (greater a b) ≡ true
seen-with Hidden b e = e
seen-with See Hidden e = absurd cc
seen-with See See e = refl
seen-with See Talk e = refl
seen-with See Own e = refl
seen-with Talk Hidden e = absurd cc
seen-with Talk See e = refl
seen-with Talk Talk e = refl
seen-with Talk Own e = refl
seen-with Own Hidden e = absurd cc
seen-with Own See e = refl
seen-with Own Talk e = refl
seen-with Own Own e = refl

-- what is known of the unique name that the fact is about
told : (ids : Ids) (policy : Policy) (facts : List Fact) (fact : Fact) (id : Text) (k : Known) (l : Level) (ns : List ℕ) → Taught ids policy facts →
    level_by policy id fact ≡ l → at_least See l ≡ true → k ≡ record { level = greater (known_level (get ids id)) l; numbers = ns } → owned_numbers policy (facts ++ fact ∷ []) id ≡ ns →
    Some k ≡ known_of policy (facts ++ fact ∷ []) id
unfolding made
told ids policy facts fact id k l ns taught by seen is numbers =
    let at : known_level (get ids id) ≡ level_of_id policy facts id = ap known_level (taught.each id) ∙ known-level-of policy facts id in
    let now : level_of_id policy (facts ++ fact ∷ []) id ≡ greater (known_level (get ids id)) l =
    level-last policy facts fact id ∙ ap₂ greater (sym at) by in
    ap Some is
    ∙ sym (ap (λ b. if b then kept (greater (known_level (get ids id)) l) ns else None) (seen-with (known_level (get ids id)) l seen))
    ∙ sym (ap₂ made now numbers)
  where
    kept : Level → List ℕ → Option Known
    kept l ns = Some (record { level = l; numbers = ns })

-- an id that was given something
given : (ids : Ids) (policy : Policy) (facts : List Fact) (fact : Fact) (id : Text) (k : Known) → Taught ids policy facts → Some k ≡ known_of policy (facts ++ fact ∷ []) id →
    ((q : Text) → bytes_eq id q ≡ false → known_of policy (facts ++ fact ∷ []) q ≡ known_of policy facts q) → Taught (insert ids id k) policy (facts ++ fact ∷ [])
given ids policy facts fact id k taught here others = record { each = λ q. inserted ids id k q ∙ by q (bytes_eq id q) refl }
  where
    by : (q : Text) (b : Bool) → bytes_eq id q ≡ b → (if b then Some k else get ids q) ≡ known_of policy (facts ++ fact ∷ []) q
    by q true is = here ∙ ap (known_of policy (facts ++ fact ∷ [])) (bytes_eq-true id q is)
    by q false is = taught.each q ∙ sym (others q is)

hidden-if : (b : Bool) (l : Level) → b ≡ false → (if b then l else Hidden) ≡ Hidden
hidden-if true l e = absurd cc
hidden-if false l e = refl

if-same : (policy : Policy) (id : Text) (l : Level) → (if bytes_eq id id then l else Hidden) ≡ l
if-same policy id l = ap (λ b. if b then l else Hidden) (bytes_eq-refl id)

pub learned-taught : (ids : Ids) (policy : Policy) (facts : List Fact) (fact : Fact) → Taught ids policy facts → Taught (learned policy ids fact) policy (facts ++ fact ∷ [])
learned-taught ids policy facts (SelfId id) taught =
    given ids policy facts (SelfId id) id (raised Talk (get ids id)) taught
    (told ids policy facts (SelfId id) id (raised Talk (get ids id)) Talk (known_numbers (get ids id)) taught (if-same policy id Talk) refl refl
    (numbers-last policy facts (SelfId id) id ∙ sym (numbers-of ids policy facts id taught)))
    (λ q other. untold policy facts (SelfId id) q (hidden-if (bytes_eq id q) Talk other) (always-agree _ _ (λ e. refl) policy.entries))
learned-taught ids policy facts (Met id) taught =
    given ids policy facts (Met id) id (raised See (get ids id)) taught
    (told ids policy facts (Met id) id (raised See (get ids id)) See (known_numbers (get ids id)) taught (if-same policy id See) refl refl
    (numbers-last policy facts (Met id) id ∙ sym (numbers-of ids policy facts id taught)))
    (λ q other. untold policy facts (Met id) q (hidden-if (bytes_eq id q) See other) (always-agree _ _ (λ e. refl) policy.entries))
learned-taught ids policy facts (Owned name id) taught = by (at_least See (level policy name)) refl
  where
    others : (q : Text) → bytes_eq id q ≡ false → known_of policy (facts ++ Owned name id ∷ []) q ≡ known_of policy facts q
    others q other =
        untold policy facts (Owned name id) q (hidden-if (bytes_eq id q) (level policy name) other)
        (always-agree _ _ (λ e. ap (λ b. (b && covers e.pattern name) || list_any (covers_name_of e q) facts) other) policy.entries)

    numbers : owned_numbers policy (facts ++ Owned name id ∷ []) id ≡ merged_from name 1 policy.entries (known_numbers (get ids id))
    numbers =
        numbers-last policy facts (Owned name id) id
        ∙ same-numbers _ (λ e. covers e.pattern name || list_any (covers_name_of e id) facts) 1 policy.entries
        (always-agree _ _ (λ e. ap (λ b. (b && covers e.pattern name) || list_any (covers_name_of e id) facts) (bytes_eq-refl id)) policy.entries)
        ∙ sym (merged-numbers name (λ e. list_any (covers_name_of e id) facts) 1 policy.entries)
        ∙ ap (merged_from name 1 policy.entries) (sym (numbers-of ids policy facts id taught))

    nothing : (b : Bool) (q : Text) → bytes_eq id q ≡ b → level policy name ≡ Hidden → Agree (λ e. (b && covers e.pattern name) || list_any (covers_name_of e q) facts) (λ e. list_any (covers_name_of e q) facts) policy.entries
    nothing true q is none = along policy.entries (uncovered policy name none)
      where
        along : (es : List Entry) → Agree (λ e. covers e.pattern name) (λ e. false) es → Agree (λ e. covers e.pattern name || list_any (covers_name_of e q) facts) (λ e. list_any (covers_name_of e q) facts) es
        along [] none = tt
        along (e ∷ es) none = (ap (λ b. b || list_any (covers_name_of e q) facts) none.0, along es none.1)
    nothing false q is none = always-agree _ _ (λ e. refl) policy.entries

    levels : (b : Bool) → level policy name ≡ Hidden → (if b then level policy name else Hidden) ≡ Hidden
    levels true none = none
    levels false none = refl

    by : (b : Bool) → at_least See (level policy name) ≡ b → Taught (if b then insert ids id (owning policy name (get ids id)) else ids) policy (facts ++ Owned name id ∷ [])
    by true seen =
        given ids policy facts (Owned name id) id (owning policy name (get ids id)) taught
        (told ids policy facts (Owned name id) id (owning policy name (get ids id)) (level policy name) (merged_from name 1 policy.entries (known_numbers (get ids id))) taught
        (if-same policy id (level policy name)) seen refl numbers) others
    by false seen =
        let none = not-seen (level policy name) seen in
        record { each = λ q. taught.each q ∙ sym (untold policy facts (Owned name id) q (levels (bytes_eq id q) none) (nothing (bytes_eq id q) q refl none)) }

-- ---- numbers of entries

inserted-fits : (ids : Ids) (policy : Policy) (id : Text) (k : Known) → Fits ids policy → AreNumbers (length policy.entries) k.numbers → Fits (insert ids id k) policy
inserted-fits ids policy id k fits are = record { each = λ q x at. by q x (bytes_eq id q) (sym (inserted ids id k q) ∙ at) }
  where
    by : (q : Text) (x : Known) (b : Bool) → (if b then Some k else get ids q) ≡ Some x → AreNumbers (length policy.entries) x.numbers
    by q x true at = let same : k ≡ x = cc in subst (λ (y : Known). AreNumbers (length policy.entries) y.numbers) same are
    by q x false at = fits.each q x at

pub learned-fits : (ids : Ids) (policy : Policy) (fact : Fact) → Fits ids policy → Fits (learned policy ids fact) policy
learned-fits ids policy (SelfId id) fits = inserted-fits ids policy id (raised Talk (get ids id)) fits (known-within ids policy id fits)
learned-fits ids policy (Met id) fits = inserted-fits ids policy id (raised See (get ids id)) fits (known-within ids policy id fits)
learned-fits ids policy (Owned name id) fits = by (at_least See (level policy name))
  where
    by : (b : Bool) → Fits (if b then insert ids id (owning policy name (get ids id)) else ids) policy
    by true = inserted-fits ids policy id (owning policy name (get ids id)) fits (all-within policy name (known_numbers (get ids id)))
    by false = fits

-- ---- what is known already

-- if the same is known of a unique name, nothing changes
pub unchanged : (ids : Ids) (id : Text) (k : Known) → get ids id ≡ Some k → ids ≡ insert ids id k
unchanged ids id k is = same_map nat_list_cmp_total exact_bytes ids (insert ids id k) (λ q. at q (bytes_eq id q) refl ∙ sym (inserted ids id k q))
  where
    at : (q : Text) (b : Bool) → bytes_eq id q ≡ b → get ids q ≡ (if b then Some k else get ids q)
    at q true same = ap (get ids) (sym (bytes_eq-true id q same)) ∙ is
    at q false same = refl

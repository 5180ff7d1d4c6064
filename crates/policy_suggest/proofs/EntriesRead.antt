-- The words of the suggested entries give the suggested policy again: each is in grammar, and no two are equal.
use Rattle.std.proofs.Common.{◌≡◌, ◌⊎◌, inl, inr, ℕ, ◌+◌, ◌≤◌, Bool, true, false, ◌&&◌, ◌||◌, List, [], ◌∷◌, ◌++◌, length, map, flat_map, codes, Option, Some, None, Result, Ok, Err, if◌then◌else◌, refl, ap, ap₂, sym, ◌∙◌, subst, arith, append_assoc, append-nil, String, string_bytes}
use Rattle.std.specs.List.{list_all, list_any}
use Rattle.std.specs.Prelude.{nat_lt}
use Rattle.std.specs.Str.{bytes_eq}
use Rattle.std.specs.declared.cmp.Ordering.{Ordering}
use Rattle.std.specs.declared.cmp.Ordering.TheVariants.{Less, Equal}
use Rattle.std.proofs.lemmas.Bool.{false_from_ne_true, ltb-true}
use Rattle.std.proofs.lemmas.List.{length-append, length-map, map-append}
use Rattle.call_rules.specs.Rules.{Rule}
use Rattle.dbus_names.specs.Names.{is_empty, is_interface, is_member, is_path}
use Rattle.dbus_names.specs.Texts.{Text}
use Rattle.policy_args.specs.Policy.{InGrammar, Policy, entry_word, is_given, policy_of, with_entry}
use Rattle.policy_args.specs.Requests.{asked_name}
use Rattle.policy_args.specs.Gives.{Gives}
use Rattle.policy_args.specs.Seen.{options_seen}
use Rattle.policy_args.specs.Words.{◌>>=◌, PolicyOptions, each_word, entry_of, no_options, options_of, with_option, with_policy}
use Rattle.policy_args.specs.declared.BadWord.{BadWord}
use Rattle.policy_args.specs.declared.WordKind.{WordKind}
use Rattle.policy_args.specs.declared.WordKind.TheVariants.{TooMany}
use Rattle.policy_args.specs.declared.options.Options.{Options}
use Rattle.policy_args.specs.declared.refusals.LineRefusal.{LineRefusal}
use Rattle.policy_args.specs.declared.refusals.LineRefusal.TheVariants.{Bad}
use Rattle.policy_args.specs.declared.entry.Entry.{Entry}
use Rattle.policy_args.specs.declared.entry.Grant.{Grant}
use Rattle.policy_args.specs.declared.entry.Grant.TheVariants.{See as to_see, Talk as to_talk, Own as to_own, Call as to_call, Broadcast as to_broadcast, Property as to_property}
use Rattle.policy_args.specs.declared.requests.Asked.{Asked}
use Rattle.policy_args.specs.declared.requests.Asked.TheVariants.{Call, Signal, Own, Owner, Broadcast, Property}
use Rattle.policy_args.proofs.EachWord.{each_word-Ok}
use Rattle.policy_args.proofs.EntryAgain.{entry_of-entry_word}
use Rattle.policy_suggest.specs.AskedBy.{is_peer}
use Rattle.policy_suggest.specs.Suggest.{AreInGrammar, Target, asks_any_interface, asks_call, asks_own, asks_signal, compare, entries_for, entry_for, filtered, has_level, in_order, is_asked, method_rule, of_method, of_name, of_path, path_rule, ruled_targets, rule_for, suggested, targets}
use Rattle.policy_suggest.proofs.Elements.{Has, all-has, append-has, flat-has}
use Rattle.policy_suggest.proofs.Grammar.{method-rule-read, path-rule-read}
use Rattle.policy_suggest.proofs.Needs.{call-parts, interface-stands, own-grammar, peer-known, rule-grammar, same-entry, see-grammar, talk-grammar}
use Rattle.policy_suggest.proofs.Ordered.{Sorted, compare-itself, ordered-has, sorted-order}
use Rattle.policy_suggest.proofs.Suggested.{method-call, name-see, only, path-call, targets-level, targets-ruled}

-- ---- what the targets are

-- a target is a name, or a path or a method of a name to which neither Own nor Signal goes
data IsFor (all : List Asked) (t : Target) : Type 0 where
  a-name : is_peer t.name ≡ true → t ≡ of_name t.name → IsFor all t
  a-path : is_peer t.name ≡ true → has_level all t.name ≡ false → is_path t.path ≡ true → t ≡ of_path t.name t.path → IsFor all t
  a-method : is_peer t.name ≡ true → has_level all t.name ≡ false → is_path t.path ≡ true → is_interface t.interface ≡ true → is_member t.member ≡ true → IsFor all t

module _ (all : List Asked) (are : list_all is_asked all ≡ true) where
  call-for : (name path : Text) (interface : Option Text) (member : Text) → is_asked (Call name path interface member) ≡ true → has_level all name ≡ false →
      IsFor all (if list_any (asks_any_interface name path) all then of_path name path else of_method name path interface member)
  call-for name path interface member is bare = by (list_any (asks_any_interface name path) all) interface is
    where
      by : (b : Bool) (i : Option Text) → is_asked (Call name path i member) ≡ true → IsFor all (if b then of_path name path else of_method name path i member)
      by true i is = let parts = call-parts name path i member is in a-path parts.name_is bare parts.path_is refl
      by false None is = let parts = call-parts name path None member is in a-path parts.name_is bare parts.path_is refl
      by false (Some i) is =
          let parts = call-parts name path (Some i) member is in
          a-method parts.name_is bare parts.path_is parts.interface_is parts.member_is

  name-for : (name : Text) (t : Target) → is_peer name ≡ true → Has t (if list_any (asks_call name) all then [] else of_name name ∷ []) → IsFor all t
  name-for name t peer = by (list_any (asks_call name) all)
    where
      by : (b : Bool) → Has t (if b then [] else of_name name ∷ []) → IsFor all t
      by true h = absurd h
      by false h = subst (IsFor all) (sym (only t (of_name name) h)) (a-name peer refl)

  ruled-for : (a : Asked) (t : Target) → is_asked a ≡ true → has_level all (asked_name a) ≡ false → Has t (ruled_targets all a) → IsFor all t
  ruled-for (Call name path interface member) t is bare h = subst (IsFor all) (sym (only t _ h)) (call-for name path interface member is bare)
  ruled-for (Signal name) t is bare h = name-for name t is h
  ruled-for (Own name) t is bare h = name-for name t is h
  ruled-for (Owner name) t is bare h = name-for name t is h
  ruled-for (Broadcast name path interface member) t is bare h = absurd cc
  ruled-for (Property name path interface access) t is bare h = absurd cc

  asked-peer : (a : Asked) → is_asked a ≡ true → is_peer (asked_name a) ≡ true
  asked-peer (Call name path interface member) is = (call-parts name path interface member is).name_is
  asked-peer (Signal name) is = is
  asked-peer (Own name) is = is
  asked-peer (Owner name) is = is
  asked-peer (Broadcast name path interface member) is = absurd cc
  asked-peer (Property name path interface access) is = absurd cc

  target-for : (t : Target) → Has t (in_order (flat_map (targets all) all)) → IsFor all t
  target-for t h =
      let source = flat-has (targets all) all t (ordered-has (flat_map (targets all) all) t h) in
      let is = all-has is_asked all source.0 are source.1 in
      by source.0 is source.2 (has_level all (asked_name source.0)) refl
    where
      by : (a : Asked) → is_asked a ≡ true → Has t (targets all a) → (b : Bool) → has_level all (asked_name a) ≡ b → IsFor all t
      by a is k true level = subst (IsFor all) (sym (only t (of_name (asked_name a)) (subst (Has t) (targets-level all a level) k))) (a-name (asked-peer a is) refl)
      by a is k false bare = ruled-for a t is bare (subst (Has t) (targets-ruled all a bare) k)

-- ---- their entries are in grammar

abbrev named : Text → Grant → Entry
named name grant = record { pattern = record { name = name; exact = true }; grant = grant }

path-some : (path : Text) → is_path path ≡ true → is_empty path ≡ false
path-some [] is = absurd cc
path-some (c ∷ path) is = refl

module _ (all : List Asked) where
  path-entry : (t : Target) → has_level all t.name ≡ false → is_path t.path ≡ true → t ≡ of_path t.name t.path → entry_for all t ≡ named t.name (to_call (path_rule t.path))
  path-entry t bare is it = ap (entry_for all) it ∙ ap (named t.name) (path-call all t.name t.path bare (path-some t.path is))

  method-entry : (t : Target) → has_level all t.name ≡ false → is_path t.path ≡ true → is_interface t.interface ≡ true →
      entry_for all t ≡ named t.name (to_call (method_rule t.path t.interface t.member))
  method-entry t bare is there = ap (named t.name) (method-call all t.name t.path t.interface t.member bare (path-some t.path is) (interface-stands t.interface there))

  entry-grammar : (t : Target) → IsFor all t → InGrammar (entry_for all t)
  entry-grammar t (a-name peer it) = subst (λ u. InGrammar (entry_for all u)) (sym it) (by (list_any (asks_own t.name) all) (list_any (asks_signal t.name) all))
    where
      by : (own signal : Bool) → InGrammar (named t.name (if own then to_own else (if signal then to_talk else to_see)))
      by true signal = own-grammar t.name (peer-known t.name peer)
      by false true = talk-grammar t.name (peer-known t.name peer)
      by false false = see-grammar t.name (peer-known t.name peer)
  entry-grammar t (a-path peer bare is it) =
      subst InGrammar (sym (path-entry t bare is it)) (rule-grammar t.name (path_rule t.path) (peer-known t.name peer) (path-rule-read t.path is))
  entry-grammar t (a-method peer bare is there one) =
      subst InGrammar (sym (method-entry t bare is there))
      (rule-grammar t.name (method_rule t.path t.interface t.member) (peer-known t.name peer) (method-rule-read t.path t.interface t.member is there one))

  -- ---- no two are equal

  name-entry : (t : Target) → has_level all t.name ≡ false → t ≡ of_name t.name → entry_for all t ≡ named t.name to_see
  name-entry t bare it = ap (entry_for all) it ∙ ap (named t.name) (name-see all t.name bare)

  some-same : (a b : Text) → Some a ≡ Some b → a ≡ b
  some-same a b e = cc

  see-call : (name other : Text) (r : Rule) → named name to_see ≡ named other (to_call r) → ⊥
  see-call name other r is = no (ap (λ (x : Entry). x.grant) is)
    where
      no : to_see ≡ to_call r → ⊥
      no e = absurd cc

  rules-same : (name other : Text) (r s : Rule) → named name (to_call r) ≡ named other (to_call s) → r ≡ s
  rules-same name other r s is = held (ap (λ (x : Entry). x.grant) is)
    where
      held : to_call r ≡ to_call s → r ≡ s
      held e = cc

  path-method : (path way interface member : Text) → path_rule path ≡ method_rule way interface member → ⊥
  path-method path way interface member is = no (ap (λ (r : Rule). r.interface) is)
    where
      no : None ≡ Some interface → ⊥
      no e = absurd cc

  module _ (t u : Target) (is : entry_for all t ≡ entry_for all u) where
    names-same : t.name ≡ u.name
    names-same = ap (λ (x : Entry). x.pattern.name) is

    bare-too : has_level all u.name ≡ false → has_level all t.name ≡ false
    bare-too bare = ap (has_level all) names-same ∙ bare

    -- a name's entry has no rule beside one that has
    name-rule : (r : Rule) → t ≡ of_name t.name → has_level all u.name ≡ false → entry_for all u ≡ named u.name (to_call r) → ⊥
    name-rule r it bare entry = see-call t.name u.name r (sym (name-entry t (bare-too bare) it) ∙ is ∙ entry)

    both-rules : (r s : Rule) → entry_for all t ≡ named t.name (to_call r) → entry_for all u ≡ named u.name (to_call s) → r ≡ s
    both-rules r s first second = rules-same t.name u.name r s (sym first ∙ is ∙ second)

  same-target : (t u : Target) → IsFor all t → IsFor all u → entry_for all t ≡ entry_for all u → t ≡ u
  same-target t u (a-name peer it) (a-name also other) is = it ∙ ap of_name (names-same t u is) ∙ sym other
  same-target t u (a-name peer it) (a-path also bare here other) is = absurd (name-rule t u is (path_rule u.path) it bare (path-entry u bare here other))
  same-target t u (a-name peer it) (a-method also bare here there one) is = absurd (name-rule t u is (method_rule u.path u.interface u.member) it bare (method-entry u bare here there))
  same-target t u (a-path peer bare here it) (a-name also other) is = absurd (name-rule u t (sym is) (path_rule t.path) other bare (path-entry t bare here it))
  same-target t u (a-path peer bare here it) (a-path also bare2 here2 other) is =
      let rules = both-rules t u is (path_rule t.path) (path_rule u.path) (path-entry t bare here it) (path-entry u bare2 here2 other) in
      it ∙ ap₂ of_path (names-same t u is) (some-same t.path u.path (ap (λ (r : Rule). r.path) rules)) ∙ sym other
  same-target t u (a-path peer bare here it) (a-method also bare2 here2 there one) is =
      absurd (path-method t.path u.path u.interface u.member (both-rules t u is (path_rule t.path) (method_rule u.path u.interface u.member) (path-entry t bare here it) (method-entry u bare2 here2 there)))
  same-target t u (a-method peer bare here there one) (a-name also other) is = absurd (name-rule u t (sym is) (method_rule t.path t.interface t.member) other bare (method-entry t bare here there))
  same-target t u (a-method peer bare here there one) (a-path also bare2 here2 other) is =
      absurd (path-method u.path t.path t.interface t.member (both-rules u t (sym is) (path_rule u.path) (method_rule t.path t.interface t.member) (path-entry u bare2 here2 other) (method-entry t bare here there)))
  same-target t u (a-method peer bare here there one) (a-method also bare2 here2 there2 one2) is =
      let rules = both-rules t u is (method_rule t.path t.interface t.member) (method_rule u.path u.interface u.member) (method-entry t bare here there) (method-entry u bare2 here2 there2) in
      ap₂ (λ n p. of_method n p (Some t.interface) t.member) (names-same t u is) (some-same t.path u.path (ap (λ (r : Rule). r.path) rules))
      ∙ ap₂ (λ i m. of_method u.name u.path (Some i) m) (some-same t.interface u.interface (ap (λ (r : Rule). r.interface) rules)) (some-same t.member u.member (ap (λ (r : Rule). r.member) rules))

-- ---- lists of entries

-- no word is that of an entry before
abbrev AreNew : List Entry → List Entry → Type 0
AreNew before [] = Unit {0}
AreNew before (e ∷ es) = (is_given before e ≡ false) × AreNew (before ++ e ∷ []) es

abbrev AreFor : List Asked → List Target → Type 0
AreFor all ts = (t : Target) → Has t ts → IsFor all t

grammar-all : (all : List Asked) (ts : List Target) → AreFor all ts → AreInGrammar (map (entry_for all) ts)
grammar-all all [] each = tt
grammar-all all (t ∷ ts) each = (entry-grammar all t (each t (inl refl)), grammar-all all ts (λ u h. each u (inr h)))

module _ (all : List Asked) where
  -- each target stands above those whose entries stand before
  abbrev IsAbove : List Target → Target → Type 0
  IsAbove before t = (u : Target) → Has u before → (IsFor all u) × (u ≡ t → ⊥)

  given-none : (before : List Target) (t : Target) → IsFor all t → IsAbove before t → is_given (map (entry_for all) before) (entry_for all t) ≡ false
  given-none [] t is above = refl
  given-none (u ∷ before) t is above =
      let here = above u (inl refl) in
      let other : bytes_eq (entry_word (entry_for all u)) (entry_word (entry_for all t)) ≡ false =
      false_from_ne_true (bytes_eq (entry_word (entry_for all u)) (entry_word (entry_for all t)))
      (λ same. here.1 (same-target all u t here.0 is (same-entry (entry_for all u) (entry_for all t) (entry-grammar all u here.0) (entry-grammar all t is) same))) in
      ap₂ (λ a b. a || b) other (given-none before t is (λ v h. above v (inr h)))

  new-all : (before ts : List Target) → Sorted ts → AreFor all ts → ((t : Target) → Has t ts → IsAbove before t) → AreNew (map (entry_for all) before) (map (entry_for all) ts)
  new-all before [] s each above = tt
  new-all before (t ∷ ts) s each above = (
    given-none before t (each t (inl refl)) (above t (inl refl)),
    subst (λ es. AreNew es (map (entry_for all) ts)) (map-append (entry_for all) before (t ∷ []))
        (new-all (before ++ t ∷ []) ts s.1 (λ u h. each u (inr h)) (λ u h v k. by u h v (append-has before (t ∷ []) v k))),
  )
    where
      by : (u : Target) → Has u ts → (v : Target) → Has v before ⊎ Has v (t ∷ []) → (IsFor all v) × (v ≡ u → ⊥)
      by u h v (inl k) = above u (inr h) v k
      by u h v (inr k) =
          let same : v ≡ t = only v t k in
          (subst (IsFor all) (sym same) (each t (inl refl)), λ e. no (sym (s.0 u h) ∙ ap (compare t) (sym e ∙ same) ∙ compare-itself t))
        where
          no : Less ≡ Equal → ⊥
          no e = absurd cc

-- ---- words that are read

abbrev word_by : Entry → Grant → List ℕ
word_by e grant = entry_word (record { pattern = e.pattern; grant = grant })

few : (n : ℕ) → n ≤ 65535 → nat_lt 65535 n ≡ false
few n most = false_from_ne_true (nat_lt 65535 n) (λ is. omega (arith, ltb-true 65535 n is, most))

module _ (filter : Bool) where
  abbrev with_entries : List Entry → PolicyOptions
  with_entries entries = record { filter = filter; log = false; policy = policy_of entries }

  option-entry : (before : List Entry) (e : Entry) → with_option (with_entries before) (entry_word e) ≡ (entry_of (entry_word e) >>= λ x. with_policy (with_entries before) (with_entry before x))
  option-entry before e = by e.grant
    where
      by : (grant : Grant) → with_option (with_entries before) (word_by e grant) ≡ (entry_of (word_by e grant) >>= λ x. with_policy (with_entries before) (with_entry before x))
      by to_see = refl
      by to_talk = refl
      by to_own = refl
      by (to_call r) = refl
      by (to_broadcast r) = refl
      by (to_property r) = refl

  takes-entry : (before : List Entry) (e : Entry) → InGrammar e → is_given before e ≡ false → length (before ++ e ∷ []) ≤ 65535 → with_option (with_entries before) (entry_word e) ≡ Ok (with_entries (before ++ e ∷ []))
  takes-entry before e grammar new most =
      option-entry before e
      ∙ ap (λ (r : Result Entry WordKind). r >>= λ x. with_policy (with_entries before) (with_entry before x)) (entry_of-entry_word e grammar)
      ∙ ap (λ b. with_policy (with_entries before) (if b then before else before ++ e ∷ [])) new
      ∙ ap (λ b. if b then Err TooMany else Ok (with_entries (before ++ e ∷ []))) (few (length (before ++ e ∷ [])) most)

  takes-all : (index : ℕ) (before es : List Entry) → AreInGrammar es → AreNew before es → length (before ++ es) ≤ 65535 → each_word with_option index (with_entries before) (map entry_word es) ≡ Ok (with_entries (before ++ es))
  takes-all index before [] grammar new most = ap (λ entries. Ok (with_entries entries)) (sym (append-nil before))
  takes-all index before (e ∷ es) grammar new most =
      let joined : (before ++ e ∷ []) ++ es ≡ before ++ e ∷ es = append_assoc before (e ∷ []) es in
      each_word-Ok with_option index (with_entries before) (entry_word e) (map entry_word es) (with_entries (before ++ e ∷ []))
      (takes-entry before e grammar.0 new.0 (omega (arith, most, length-append before (e ∷ es), length-append before (e ∷ []))))
      ∙ takes-all (index + 1) (before ++ e ∷ []) es grammar.1 new.1 (subst (λ entries. length entries ≤ 65535) (sym joined) most)
      ∙ ap (λ entries. Ok (with_entries entries)) joined

  -- the words of all suggested entries, from an index on
  takes-suggested : (index : ℕ) (all : List Asked) → list_all is_asked all ≡ true → length (entries_for all) ≤ 65535 →
      each_word with_option index (with_entries []) (map entry_word (entries_for all)) ≡ Ok (with_entries (entries_for all))
  takes-suggested index all are most =
      let ts = in_order (flat_map (targets all) all) in
      let each : AreFor all ts = target-for all are in
      takes-all index [] (entries_for all) (grammar-all all ts each) (new-all all [] ts (sorted-order (flat_map (targets all) all)) each (λ t h u k. absurd k)) most

module _ (all : List Asked) (are : list_all is_asked all ≡ true) (most : length (suggested all).entries ≤ 65535) where
  pub entries-read : options_of (map entry_word (suggested all).entries) ≡ Ok (record { filter = false; log = false; policy = suggested all })
  unfolding suggested options_of
  entries-read = takes-suggested false 0 all are most

  pub suggested-read : options_of (codes "--filter" ∷ map entry_word (suggested all).entries) ≡ Ok (filtered (suggested all))
  unfolding suggested options_of
  suggested-read =
      each_word-Ok with_option 0 no_options (codes "--filter") (map entry_word (entries_for all)) (with_entries true []) refl
      ∙ takes-suggested true 1 all are most

-- ---- what reading these words answers

abbrev ok_options : PolicyOptions → Result PolicyOptions BadWord
ok_options o = Ok o

policy_in : Result PolicyOptions BadWord → Policy
policy_in (Ok o) = o.policy
policy_in (Err bad) = policy_of []

module _ {Z : Type 0} (all : List Asked) (words : List (String Z)) (are_words : map (λ w. string_bytes w) words ≡ map entry_word (suggested all).entries) where
  pub words-few : length words ≤ 65535 → length (suggested all).entries ≤ 65535
  words-few few =
      let same : length (map (λ w. string_bytes w) words) ≡ length (map entry_word (suggested all).entries) = ap length are_words in
      omega (arith, few, same, length-map words (λ w. string_bytes w), length-map (suggested all).entries entry_word)

  module _ (are : list_all is_asked all ≡ true) (few : length words ≤ 65535) (read : Result Options LineRefusal) (texts : List Text) (same : texts ≡ map (λ w. string_bytes w) words) (gives : Gives options_seen read (options_of texts)) where
    reads : Gives options_seen read (ok_options (record { filter = false; log = false; policy = suggested all }))
    reads = subst (Gives options_seen read) (ap options_of (same ∙ are_words) ∙ entries-read all are (words-few few)) gives

    pub words-policy : (o : Options) → read ≡ Ok o → o.policy ≡ suggested all
    unfolding policy_in
    words-policy o is =
        sym (ap policy_in (subst (λ r. Gives options_seen r (ok_options (record { filter = false; log = false; policy = suggested all }))) is reads))

    pub words-good : (bad : BadWord) → read ≡ Err (Bad bad) → ⊥
    words-good bad is = by (subst (λ r. Gives options_seen r (ok_options (record { filter = false; log = false; policy = suggested all }))) is reads)
      where
        by : ok_options (record { filter = false; log = false; policy = suggested all }) ≡ Err bad → ⊥
        by e = absurd cc

-- The level of an id and the entries of its names, one fact after the other.
use Rattle.std.proofs.Common.{◌≡◌, ℕ, ◌+◌, Bool, true, false, ◌||◌, List, [], ◌∷◌, ◌++◌, if◌then◌else◌, refl, ap, sym, ◌∙◌}
use Rattle.std.specs.Prelude.{◌&&◌}
use Rattle.std.specs.List.{list_any}
use Rattle.std.specs.Str.{bytes_eq}
use Rattle.std.proofs.Math.Bool.{or_comm, or-false}
use Rattle.std.proofs.lemmas.List.Folds.{list_any-append}
use Rattle.dbus_names.specs.Texts.{Text}
use Rattle.dbus_names.specs.Names.{is_bus}
use Rattle.name_patterns.specs.Patterns.{covers}
use Rattle.policy_args.specs.Policy.{Policy, at_least, given_by, granted, greater, level}
use Rattle.policy_args.specs.Levels.{covers_name_of, level_by, level_of_id, numbers_where}
use Rattle.policy_args.specs.declared.Level.{Level}
use Rattle.policy_args.specs.declared.Level.TheVariants.{None as Hidden, See, Talk, Own}
use Rattle.policy_args.specs.declared.entry.Entry.{Entry}
use Rattle.policy_args.specs.declared.entry.Grant.{Grant}
use Rattle.policy_args.specs.declared.entry.Grant.TheVariants.{See as to_see, Talk as to_talk, Own as to_own, Call as to_call, Broadcast as to_broadcast, Property as to_property}
use Rattle.policy_args.specs.declared.fact.Fact.{Fact}
use Rattle.policy_args.specs.declared.fact.Fact.TheVariants.{Owned, SelfId, Met}
use Rattle.policy_args.proofs.PolicyLevels.{greater-assoc}
use Rattle.unique_names.specs.Taught.{owned_numbers}
use Rattle.unique_names.proofs.Merging.{Agree, always-agree, same-numbers}

-- ---- levels

pub greater-hidden : (a : Level) → greater a Hidden ≡ a
greater-hidden Hidden = refl
greater-hidden See = refl
greater-hidden Talk = refl
greater-hidden Own = refl

-- one fact more
pub level-last : (policy : Policy) (facts : List Fact) (fact : Fact) (id : Text) → level_of_id policy (facts ++ fact ∷ []) id ≡ greater (level_of_id policy facts id) (level_by policy id fact)
level-last policy [] fact id = greater-hidden (level_by policy id fact)
level-last policy (f ∷ facts) fact id =
    ap (greater (level_by policy id f)) (level-last policy facts fact id)
    ∙ sym (greater-assoc (level_by policy id f) (level_of_id policy facts id) (level_by policy id fact))

-- a level that isn't See or more is none
pub not-seen : (l : Level) → at_least See l ≡ false → l ≡ Hidden
not-seen Hidden e = refl
not-seen See e = absurd cc
not-seen Talk e = absurd cc
not-seen Own e = absurd cc

pub hidden-parts : (a b : Level) → greater a b ≡ Hidden → (a ≡ Hidden) × (b ≡ Hidden)
hidden-parts Hidden b e = (refl, e)
hidden-parts See Hidden e = absurd cc
hidden-parts See See e = absurd cc
hidden-parts See Talk e = absurd cc
hidden-parts See Own e = absurd cc
hidden-parts Talk Hidden e = absurd cc
hidden-parts Talk See e = absurd cc
hidden-parts Talk Talk e = absurd cc
hidden-parts Talk Own e = absurd cc
hidden-parts Own Hidden e = absurd cc
hidden-parts Own See e = absurd cc
hidden-parts Own Talk e = absurd cc
hidden-parts Own Own e = absurd cc

given-more : (g : Grant) → given_by g ≡ Hidden → ⊥
given-more to_see e = cc
given-more to_talk e = cc
given-more to_own e = cc
given-more (to_call r) e = cc
given-more (to_broadcast r) e = cc
given-more (to_property r) e = cc

-- ---- a name to which the policy gives no level

-- no entry covers it
none-covers : (es : List Entry) (name : Text) → granted es name ≡ Hidden → Agree (λ e. covers e.pattern name) (λ e. false) es
none-covers [] name e = tt
none-covers (x ∷ es) name e = by (none-covers es name) (covers x.pattern name) refl e
  where
    by : (granted es name ≡ Hidden → Agree (λ e. covers e.pattern name) (λ e. false) es) → (b : Bool) → covers x.pattern name ≡ b →
        (if b then greater (given_by x.grant) (granted es name) else granted es name) ≡ Hidden → Agree (λ e. covers e.pattern name) (λ e. false) (x ∷ es)
    by others true is e = absurd (given-more x.grant (hidden-parts (given_by x.grant) (granted es name) e).0)
    by others false is e = (is, others e)

pub uncovered : (policy : Policy) (name : Text) → level policy name ≡ Hidden → Agree (λ e. covers e.pattern name) (λ e. false) policy.entries
unfolding level
uncovered policy name e = by (is_bus name) e
  where
    by : (b : Bool) → (if b then greater Talk (granted policy.entries name) else granted policy.entries name) ≡ Hidden → Agree (λ e. covers e.pattern name) (λ e. false) policy.entries
    by true e = let none : Talk ≡ Hidden = (hidden-parts Talk (granted policy.entries name) e).0 in absurd cc
    by false e = none-covers policy.entries name e

-- ---- the entries of an id

-- a fact adds no entry if none covers its name
without : (test : Entry → Bool) (name : Text) (same : Bool) (es : List Entry) → Agree (λ e. covers e.pattern name) (λ e. false) es → Agree (λ e. (same && covers e.pattern name) || test e) test es
without test name same [] none = tt
without test name true (e ∷ es) none = (ap (λ b. b || test e) none.0, without test name true es none.1)
without test name false (e ∷ es) none = (refl, without test name false es none.1)

-- an id without a level has no entries
pub hidden-numbers : (policy : Policy) (facts : List Fact) (id : Text) → level_of_id policy facts id ≡ Hidden → owned_numbers policy facts id ≡ []
hidden-numbers policy [] id e = none 1 policy.entries
  where
    none : (n : ℕ) (es : List Entry) → numbers_where (λ e. false) n es ≡ []
    none n [] = refl
    none n (x ∷ es) = none (n + 1) es
hidden-numbers policy (fact ∷ facts) id e =
    let parts = hidden-parts (level_by policy id fact) (level_of_id policy facts id) e in
    same-numbers (λ e. list_any (covers_name_of e id) (fact ∷ facts)) (λ e. list_any (covers_name_of e id) facts) 1 policy.entries (by fact parts.0)
    ∙ hidden-numbers policy facts id parts.1
  where
    by : (f : Fact) → level_by policy id f ≡ Hidden → Agree (λ e. covers_name_of e id f || list_any (covers_name_of e id) facts) (λ e. list_any (covers_name_of e id) facts) policy.entries
    by (Owned name owner) e = owned (bytes_eq owner id) refl e
      where
        owned : (b : Bool) → bytes_eq owner id ≡ b → (if b then level policy name else Hidden) ≡ Hidden →
            Agree (λ e. (bytes_eq owner id && covers e.pattern name) || list_any (covers_name_of e id) facts) (λ e. list_any (covers_name_of e id) facts) policy.entries
        owned true is e = without (λ e. list_any (covers_name_of e id) facts) name (bytes_eq owner id) policy.entries (uncovered policy name e)
        owned false is e = always-agree _ _ (λ x. ap (λ b. (b && covers x.pattern name) || list_any (covers_name_of x id) facts) is) policy.entries
    by (SelfId own) e = always-agree _ _ (λ x. refl) policy.entries
    by (Met peer) e = always-agree _ _ (λ x. refl) policy.entries

-- the tests of an entry, with one fact more
pub any-last : (facts : List Fact) (fact : Fact) (id : Text) (e : Entry) → list_any (covers_name_of e id) (facts ++ fact ∷ []) ≡ (covers_name_of e id fact || list_any (covers_name_of e id) facts)
any-last facts fact id e =
    list_any-append (covers_name_of e id) facts (fact ∷ [])
    ∙ ap (λ b. list_any (covers_name_of e id) facts || b) (or-false (covers_name_of e id fact))
    ∙ or_comm (list_any (covers_name_of e id) facts) (covers_name_of e id fact)

pub numbers-last : (policy : Policy) (facts : List Fact) (fact : Fact) (id : Text) →
    owned_numbers policy (facts ++ fact ∷ []) id ≡ numbers_where (λ e. covers_name_of e id fact || list_any (covers_name_of e id) facts) 1 policy.entries
numbers-last policy facts fact id = same-numbers _ _ 1 policy.entries (always-agree _ _ (any-last facts fact id) policy.entries)

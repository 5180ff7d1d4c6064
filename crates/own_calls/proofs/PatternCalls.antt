-- The calls for the patterns of a policy, one pattern after the other.
use Rattle.std.proofs.Common.{◌≡◌, ℕ, ◌+◌, ◌-◌, ◌≤◌, ◌<◌, Bool, true, List, [], ◌∷◌, ◌++◌, length, take, drop, Some, slice_get, refl, ap, ap₂, sym, subst, ◌∙◌, arith, append_assoc, append-nil, length-append}
use Rattle.std.specs.List.{flat_map, list_any}
use Rattle.std.proofs.lemmas.List.{take-append-drop, take_all, take_more, drop_more}
use Rattle.std.proofs.lemmas.List.Concat.{flat_map-append}
use Rattle.std.proofs.lemmas.Option.{slice_get_within, get_or_from_slice_get}
use Rattle.policy_args.specs.Policy.{Policy, patterns_of}
use Rattle.policy_args.specs.declared.entry.Entry.{Entry}
use Rattle.name_patterns.specs.Patterns.{Pattern}
use Rattle.policy_view.specs.Sent.{Sent, calls_for, is_subtree, own_calls, spelled_from, OwnNames}
use Rattle.policy_view.specs.Texts.{only_if}
use Rattle.reply_ledger.specs.Ledger.{Ledger}
use Rattle.own_calls.specs.Sending.{AreCutOff, AreSent}
use Rattle.own_calls.proofs.SendingLaws.{both-sent, cut_first, cut_later, spelled_from-append}

-- ---- a place in a list

back : (k : ℕ) → k + 1 - 1 ≡ k
back k = omega arith

-- the element of a number, from 1
pub from-here : {A : Type 0} (xs : List A) (k : ℕ) (x : A) → slice_get xs (k + 1 - 1) ≡ Some x → drop k xs ≡ x ∷ drop (k + 1) xs
from-here xs k x at =
    let here : slice_get xs k ≡ Some x = ap (slice_get xs) (sym (back k)) ∙ at in
    drop_more xs k x (slice_get_within xs k x here) ∙ ap (λ y. y ∷ drop (k + 1) xs) (get_or_from_slice_get xs k x x here)

up-to : {A : Type 0} (xs : List A) (k : ℕ) (x : A) → slice_get xs (k + 1 - 1) ≡ Some x → take (k + 1) xs ≡ take k xs ++ x ∷ []
up-to xs k x at =
    let here : slice_get xs k ≡ Some x = ap (slice_get xs) (sym (back k)) ∙ at in
    take_more xs k x (slice_get_within xs k x here) ∙ ap (λ y. take k xs ++ y ∷ []) (get_or_from_slice_get xs k x x here)

-- ---- the calls for the first patterns

abbrev pub calls_for_first : ℕ → List Entry → List Sent
calls_for_first k entries = flat_map calls_for (take k (patterns_of entries))

pub next-calls : (es : List Entry) (k : ℕ) (p : Pattern) → slice_get (patterns_of es) (k + 1 - 1) ≡ Some p → calls_for_first (k + 1) es ≡ calls_for_first k es ++ calls_for p
next-calls es k p at =
    ap (flat_map calls_for) (up-to (patterns_of es) k p at)
    ∙ flat_map-append calls_for (take k (patterns_of es)) (p ∷ [])
    ∙ ap (λ t. calls_for_first k es ++ t) (append-nil (calls_for p))

pub all-calls : (es : List Entry) (k : ℕ) → length (patterns_of es) ≤ k → calls_for_first k es ≡ flat_map calls_for (patterns_of es)
all-calls es k le = ap (flat_map calls_for) (take_all k (patterns_of es) le)

pub own-calls : (policy : Policy) (k : ℕ) (b : Bool) → length (patterns_of policy.entries) ≤ k → b ≡ list_any is_subtree policy.entries →
    own_calls policy ≡ calls_for_first k policy.entries ++ only_if b OwnNames
unfolding own_calls
own-calls policy k b le is = ap₂ (λ a c. a ++ only_if c OwnNames) (sym (all-calls policy.entries k le)) (sym is)

-- ---- how many

pub next-count : (es : List Entry) (k : ℕ) (p : Pattern) (n m : ℕ) → slice_get (patterns_of es) (k + 1 - 1) ≡ Some p → n ≡ length (calls_for_first k es) → m ≡ length (calls_for p) → n + m ≡ length (calls_for_first (k + 1) es)
next-count es k p n m at n_is m_is = omega (arith, n_is, m_is, ap length (next-calls es k p at), length-append (calls_for_first k es) (calls_for p))

pub own-count : (policy : Policy) (k n : ℕ) (b : Bool) → length (patterns_of policy.entries) ≤ k → b ≡ list_any is_subtree policy.entries → n ≡ length (calls_for_first k policy.entries) →
    n + length (only_if b OwnNames) ≡ length (own_calls policy)
own-count policy k n b le is n_is = omega (arith, n_is, ap length (own-calls policy k b le is), length-append (calls_for_first k policy.entries) (only_if b OwnNames))

-- ---- sending them

-- those that are left after the first patterns
abbrev calls_left : Policy → ℕ → List Sent
calls_left policy k = flat_map calls_for (drop k (patterns_of policy.entries)) ++ only_if (list_any is_subtree policy.entries) OwnNames

own-calls-from : (policy : Policy) (k : ℕ) → own_calls policy ≡ calls_for_first k policy.entries ++ calls_left policy k
unfolding own_calls
own-calls-from policy k =
    let ps = patterns_of policy.entries in
    let names = only_if (list_any is_subtree policy.entries) OwnNames in
    let all : flat_map calls_for ps ≡ calls_for_first k policy.entries ++ flat_map calls_for (drop k ps) =
    ap (flat_map calls_for) (sym (take-append-drop k ps)) ∙ flat_map-append calls_for (take k ps) (drop k ps) in
    ap (λ (calls : List Sent). calls ++ names) all ∙ append_assoc (calls_for_first k policy.entries) (flat_map calls_for (drop k ps)) names

-- there are serials for those of one more pattern
pub serials-left : (policy : Policy) (k : ℕ) (p : Pattern) (given now most : ℕ) → slice_get (patterns_of policy.entries) (k + 1 - 1) ≡ Some p →
    now ≡ given + length (calls_for_first k policy.entries) → given + length (own_calls policy) ≤ most → now + length (calls_for p) ≤ most
serials-left policy k p given now most at now_is le =
    omega (
      arith,
      now_is,
      le,
      ap length (own-calls-from policy (k + 1)),
      length-append (calls_for_first (k + 1) policy.entries) (calls_left policy (k + 1)),
      ap length (next-calls policy.entries k p at),
      length-append (calls_for_first k policy.entries) (calls_for p),
    )

-- and for the last call
pub serial-left : (policy : Policy) (k given now most : ℕ) → length (patterns_of policy.entries) ≤ k → true ≡ list_any is_subtree policy.entries →
    now ≡ given + length (calls_for_first k policy.entries) → given + length (own_calls policy) ≤ most → now < most
serial-left policy k given now most le is now_is room =
    omega (arith, now_is, room, own-count policy k (length (calls_for_first k policy.entries)) true le is refl)

module _ {calls calls_between calls_then : List ℕ} {given given_between given_then : ℕ} {ledger ledger_between ledger_then : Ledger} where
  pub next-sent : (es : List Entry) (k : ℕ) (p : Pattern) → slice_get (patterns_of es) (k + 1 - 1) ≡ Some p → AreSent (calls_for_first k es) calls given ledger calls_between given_between ledger_between →
      AreSent (calls_for p) calls_between given_between ledger_between calls_then given_then ledger_then → AreSent (calls_for_first (k + 1) es) calls given ledger calls_then given_then ledger_then
  next-sent es k p at first second =
      subst (λ (s : List Sent). AreSent s calls given ledger calls_then given_then ledger_then) (sym (next-calls es k p at)) (both-sent _ _ _ _ _ _ _ _ _ _ _ first second)

  pub all-sent : (policy : Policy) (k : ℕ) (b : Bool) → length (patterns_of policy.entries) ≤ k → b ≡ list_any is_subtree policy.entries →
      AreSent (calls_for_first k policy.entries) calls given ledger calls_between given_between ledger_between → AreSent (only_if b OwnNames) calls_between given_between ledger_between calls_then given_then ledger_then →
      AreSent (own_calls policy) calls given ledger calls_then given_then ledger_then
  all-sent policy k b le is first second =
      subst (λ (s : List Sent). AreSent s calls given ledger calls_then given_then ledger_then) (sym (own-calls policy k b le is)) (both-sent _ _ _ _ _ _ _ _ _ _ _ first second)

  -- memory was refused amid the calls for a pattern
  pub cut_at_pattern : (policy : Policy) (k : ℕ) (p : Pattern) → slice_get (patterns_of policy.entries) (k + 1 - 1) ≡ Some p →
      AreSent (calls_for_first k policy.entries) calls given ledger calls_between given_between ledger_between →
      AreCutOff (calls_for p) calls_between given_between ledger_between calls_then given_then ledger_then → AreCutOff (own_calls policy) calls given ledger calls_then given_then ledger_then
  cut_at_pattern policy k p at first cut =
      let so_far = cut_later (calls_for_first k policy.entries) (calls_for p) first cut in
      let more = subst (λ (s : List Sent). AreCutOff s calls given ledger calls_then given_then ledger_then) (sym (next-calls policy.entries k p at)) so_far in
      subst (λ (s : List Sent). AreCutOff s calls given ledger calls_then given_then ledger_then) (sym (own-calls-from policy (k + 1))) (cut_first (calls_for_first (k + 1) policy.entries) (calls_left policy (k + 1)) more)

  -- and after those for all patterns
  pub cut_behind_patterns : (policy : Policy) (k : ℕ) (b : Bool) → length (patterns_of policy.entries) ≤ k → b ≡ list_any is_subtree policy.entries →
      AreSent (calls_for_first k policy.entries) calls given ledger calls_between given_between ledger_between → AreCutOff (only_if b OwnNames) calls_between given_between ledger_between calls_then given_then ledger_then →
      AreCutOff (own_calls policy) calls given ledger calls_then given_then ledger_then
  cut_behind_patterns policy k b le is first cut =
      subst (λ (s : List Sent). AreCutOff s calls given ledger calls_then given_then ledger_then) (sym (own-calls policy k b le is)) (cut_later _ _ first cut)

-- What is expected, as messages are sent and answers are received.
use Rattle.std.proofs.Common.{ℕ, zero, suc, ◌≡◌, ◌≢◌, ◌+◌, ◌≤◌, ◌<◌, nat_eq, nat_le, Bool, true, false, List, [], ◌∷◌, ◌++◌, length, slice_get, Option, Some, None, refl, ap, ◌∙◌, sym, arith, append-nil, append_assoc, length-append}
use Rattle.std.specs.Prelude.{◌||◌, if◌then◌else◌, option_map}
use Rattle.std.proofs.lemmas.Bool.Decides.{nat_tests}
use Rattle.std.specs.List.{list_any}
use Rattle.std.proofs.lemmas.List.Folds.{list_any-append}
use Rattle.std.proofs.lemmas.Option.{slice_get_past}
use Rattle.std.specs.Ordering.{nat_cmp}
use Rattle.std.specs.Cmp.{nat_cmp_total}
use Rattle.std.specs.FinMap.{FinMap, get, insert, remove, get-insert, get-remove}
use Rattle.own_calls.specs.Sending.{expecting}
use Rattle.policy_view.specs.Sent.{Sent, expected_of, expects_answer, if_expected, sent_at}
use Rattle.policy_view.specs.Past.{place_used}
use Rattle.reply_ledger.specs.declared.kind.Kind.{Kind as Expected}

get_last : {X : Type 0} (xs : List X) (y : X) → slice_get (xs ++ y ∷ []) (length xs) ≡ Some y
get_last [] y = refl
get_last (x ∷ xs) y = get_last xs y

get_other : {X : Type 0} (xs : List X) (y : X) (k : ℕ) → k ≢ length xs → slice_get (xs ++ y ∷ []) k ≡ slice_get xs k
get_other [] y zero ne = absurd (ne refl)
get_other [] y (suc k) ne = refl
get_other (x ∷ xs) y zero ne = refl
get_other (x ∷ xs) y (suc k) ne = get_other xs y k (λ e. ne (ap suc e))

inserted : (l : FinMap nat_cmp Expected) (k r : ℕ) (e : Expected) → get (insert l k e) r ≡ (if nat_eq r k then Some e else get l r)
inserted l k r e = let h = get-insert nat_cmp_total l k e r in grind (arith, nat_tests, h)

removed : (l : FinMap nat_cmp Expected) (k r : ℕ) → get (remove l k) r ≡ (if nat_eq r k then None else get l r)
removed l k r = let h = get-remove nat_cmp_total l k r in grind (arith, nat_tests, h)

-- what the answer to a sent message is for, if one is wanted
abbrev pub wanted : Option Sent → Option Expected
wanted s = option_map expected_of (if_expected s)

-- what is answered by a place among the sent messages, if it isn't used up
abbrev pub answered_in : List ℕ → List Sent → ℕ → Option Expected
answered_in used sent r = if list_any (nat_eq r) used then None else wanted (sent_at sent r)

same_nat : (r k : ℕ) → nat_eq r k ≡ true → r ≡ k
same_nat r k e = grind (arith, nat_tests, e)

other_nat : (r k : ℕ) → nat_eq r k ≡ false → r ≢ k
other_nat r k e = λ same. grind (arith, nat_tests, e, same)

not_used : (b : Bool) (used : List ℕ) (r n : ℕ) → list_any (nat_eq r) used ≡ b → (list_any (nat_eq r) used ≡ true → r ≤ n) → n < r → b ≡ false
not_used true used r n is h lt = absurd (let k : r ≤ n = h is in omega (arith, k, lt))
not_used false used r n is h lt = refl

past_none : (sent : List Sent) (r : ℕ) → length sent < r → sent_at sent r ≡ None
past_none sent zero lt = absurd (omega (arith, lt))
past_none sent (suc k) lt = slice_get_past sent k (omega (arith, lt))

if_none : (b : Bool) (o : Option Sent) → o ≡ None → (if b then None else wanted o) ≡ None
if_none true o e = refl
if_none false o e = ap wanted e

-- nothing is expected of a serial to come
none_yet : (l : FinMap nat_cmp Expected) (used : List ℕ) (sent : List Sent) →
    ((r : ℕ) → get l r ≡ answered_in used sent r) → get l (length sent + 1) ≡ None
none_yet l used sent each =
    each (length sent + 1) ∙ if_none (list_any (nat_eq (length sent + 1)) used) (sent_at sent (length sent + 1)) (past_none sent (length sent + 1) (omega arith))

-- with a message's answer expected at a serial, if it has one
abbrev awaits : FinMap nat_cmp Expected → ℕ → Sent → FinMap nat_cmp Expected
awaits l n s = if expects_answer s then insert l n (expected_of s) else l

given : (l : FinMap nat_cmp Expected) (k r : ℕ) (s : Sent) → get l k ≡ None → get (awaits l k s) r ≡ (if nat_eq r k then wanted (Some s) else get l r)
given l k r s none = by (expects_answer s)
  where
    unchanged : (b : Bool) → nat_eq r k ≡ b → get l r ≡ (if b then None else get l r)
    unchanged true h = ap (get l) (same_nat r k h) ∙ none
    unchanged false h = refl

    by : (b : Bool) → get (if b then insert l k (expected_of s) else l) r ≡ (if nat_eq r k then option_map expected_of (if b then Some s else None) else get l r)
    by true = inserted l k r (expected_of s)
    by false = unchanged (nat_eq r k) refl

-- a message that is sent
sends_one : (l : FinMap nat_cmp Expected) (used : List ℕ) (sent : List Sent) (s : Sent) →
    ((r : ℕ) → list_any (nat_eq r) used ≡ true → r ≤ length sent) →
    ((r : ℕ) → get l r ≡ answered_in used sent r) →
    (r : ℕ) → get (awaits l (length sent + 1) s) r ≡ answered_in used (sent ++ s ∷ []) r
sends_one l used sent s within each r = given l (length sent + 1) r s (none_yet l used sent each) ∙ by (nat_eq r (length sent + 1)) refl
  where
    at : (r : ℕ) → r ≡ length sent + 1 → sent_at (sent ++ s ∷ []) r ≡ Some s
    at zero here = absurd (omega (arith, here))
    at (suc k) here =
        let same : k ≡ length sent = omega (arith, here) in
        ap (slice_get (sent ++ s ∷ [])) same ∙ get_last sent s

    elsewhere : (r : ℕ) → r ≢ length sent + 1 → sent_at (sent ++ s ∷ []) r ≡ sent_at sent r
    elsewhere zero ne = refl
    elsewhere (suc k) ne = get_other sent s k (λ e. ne (omega (arith, e)))

    by : (here : Bool) → nat_eq r (length sent + 1) ≡ here → (if here then wanted (Some s) else get l r) ≡ answered_in used (sent ++ s ∷ []) r
    by true h =
        let same = same_nat r (length sent + 1) h in
        let free : list_any (nat_eq r) used ≡ false = not_used (list_any (nat_eq r) used) used r (length sent) refl (within r) (omega (arith, same)) in
        ap wanted (sym (at r same)) ∙ ap (λ (b : Bool). if b then None else wanted (sent_at (sent ++ s ∷ []) r)) (sym free)
    by false h =
        each r ∙ ap (λ (o : Option Sent). if list_any (nat_eq r) used then None else wanted o) (sym (elsewhere r (other_nat r (length sent + 1) h)))

-- messages that are sent
pub sends : (due : List Sent) (l : FinMap nat_cmp Expected) (used : List ℕ) (sent : List Sent) (n : ℕ) → n ≡ length sent + 1 →
    ((r : ℕ) → list_any (nat_eq r) used ≡ true → r ≤ length sent) →
    ((r : ℕ) → get l r ≡ answered_in used sent r) →
    (r : ℕ) → get (expecting l n due) r ≡ answered_in used (sent ++ due) r
sends [] l used sent n at within each r = each r ∙ ap (λ (xs : List Sent). answered_in used xs r) (sym (append-nil sent))
sends (s ∷ due) l used sent n at within each r =
    let more : length (sent ++ s ∷ []) ≡ length sent + 1 = length-append sent (s ∷ []) in
    sends due (awaits l n s) used (sent ++ s ∷ []) (n + 1) (omega (arith, at, more)) (λ q u. let h : q ≤ length sent = within q u in omega (arith, h, more))
    (λ q. ap (λ (k : ℕ). get (awaits l k s) q) at ∙ sends_one l used sent s within each q) r
    ∙ ap (λ (xs : List Sent). answered_in used xs r) (append_assoc sent (s ∷ []) due)

-- an answer that came
pub answers : (l : FinMap nat_cmp Expected) (used : List ℕ) (sent : List Sent) (a : ℕ) →
    ((r : ℕ) → get l r ≡ answered_in used sent r) →
    (r : ℕ) → get (remove l a) r ≡ answered_in (used ++ place_used (length sent) (Some a)) sent r
answers l used sent a each r = removed l a r ∙ by (nat_eq r a) refl (nat_le a (length sent)) refl
  where
    more : (b : Bool) → nat_le a (length sent) ≡ b → list_any (nat_eq r) (used ++ place_used (length sent) (Some a)) ≡ (list_any (nat_eq r) used || list_any (nat_eq r) (if b then a ∷ [] else []))
    more b h = list_any-append (nat_eq r) used (place_used (length sent) (Some a)) ∙ ap (λ (c : Bool). list_any (nat_eq r) used || list_any (nat_eq r) (if c then a ∷ [] else [])) h

    or_true : (b : Bool) → (b || (true || false)) ≡ true
    or_true true = refl
    or_true false = refl

    or_none : (b : Bool) → (b || false) ≡ b
    or_none true = refl
    or_none false = refl

    by : (here : Bool) → nat_eq r a ≡ here → (within : Bool) → nat_le a (length sent) ≡ within →
        (if here then None else get l r) ≡ answered_in (used ++ place_used (length sent) (Some a)) sent r
    by true h true w =
        let used_now = more true w ∙ ap (λ (b : Bool). list_any (nat_eq r) used || (b || false)) h ∙ or_true (list_any (nat_eq r) used) in
        ap (λ (b : Bool). if b then None else wanted (sent_at sent r)) (sym used_now)
    by true h false w =
        let same = same_nat r a h in
        sym (if_none (list_any (nat_eq r) (used ++ place_used (length sent) (Some a))) (sent_at sent r) (past_none sent r (grind (arith, nat_tests, same, w))))
    by false h true w =
        let used_now = more true w ∙ ap (λ (b : Bool). list_any (nat_eq r) used || (b || false)) h ∙ or_none (list_any (nat_eq r) used) in
        each r ∙ ap (λ (b : Bool). if b then None else wanted (sent_at sent r)) (sym used_now)
    by false h false w =
        let used_now = more false w ∙ or_none (list_any (nat_eq r) used) in
        each r ∙ ap (λ (b : Bool). if b then None else wanted (sent_at sent r)) (sym used_now)

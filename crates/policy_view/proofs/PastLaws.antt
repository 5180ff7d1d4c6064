-- Laws of the past that the code's tables need: places that were used up were sent, and the serials never run over.
use Rattle.std.proofs.Common.{ℕ, ◌≡◌, ◌+◌, ◌≤◌, nat_eq, nat_le, Bool, true, false, ◌||◌, if◌then◌else◌, List, [], ◌∷◌, ◌++◌, length, Option, Some, None, refl, ap, ◌∙◌, sym, arith, append-nil, length-append, lit≤}
use Rattle.std.proofs.lemmas.Grind.{common_steps}
use Rattle.std.proofs.lemmas.Bool.Decides.{nat_tests}
use Rattle.std.specs.List.{list_any}
use Rattle.std.proofs.lemmas.List.Folds.{list_any-append}
use Rattle.dbus_header.specs.Message.{reply_serial}
use Rattle.policy_args.specs.Policy.{Policy}
use Rattle.policy_view.specs.Sent.{Past, nothing_before}
use Rattle.dbus_header.specs.Kinds.{Kind, Call, Return, Error, Signal, Other, kind_of}
use Rattle.policy_view.specs.Past.{Item, Line, Msg, Raw, Ended, History, past, after, due, used_by, used_at, place_used}
use Rattle.policy_view.specs.History.{Event, history, end_of, arrived, placed, followed_by, followed_unless, followed_by_all, most_sent}
use Rattle.policy_view.specs.declared.Side.TheVariants.{Client, Bus}
use Rattle.policy_view.specs.declared.End.{End}
use Rattle.policy_view.specs.declared.Mode.{Mode}
use Rattle.policy_view.specs.declared.End.TheVariants.{SerialsSpent}

-- each place of the list was sent
abbrev AllSent : List ℕ → ℕ → Type 0
AllSent used count = (r : ℕ) → list_any (nat_eq r) used ≡ true → r ≤ count

sent_more : (used more : List ℕ) (count now : ℕ) → count ≤ now → AllSent used count → AllSent more now → AllSent (used ++ more) now
sent_more used more count now h f g r e =
    either (list_any (nat_eq r) used) refl (sym (list_any-append (nat_eq r) used more) ∙ e)
  where
    either : (b : Bool) → list_any (nat_eq r) used ≡ b → (list_any (nat_eq r) used || list_any (nat_eq r) more) ≡ true → r ≤ now
    either true u k = omega (arith, f r u)
    either false u k = g r (rw u at k)

place_sent : (count : ℕ) (r : Option ℕ) → AllSent (place_used count r) count
place_sent count None r e = cc
place_sent count (Some p) r e = within (nat_le p count) refl e
  where
    within : (b : Bool) → nat_le p count ≡ b → list_any (nat_eq r) (if b then p ∷ [] else []) ≡ true → r ≤ count
    within true h k = grind (arith, nat_tests, common_steps, h, k)
    within false h k = cc

used_at_sent : (count : ℕ) (k : Kind) (r : Option ℕ) → AllSent (used_at count k r) count
used_at_sent count Call r n e = cc
used_at_sent count Return r n e = place_sent count r n e
used_at_sent count Error r n e = place_sent count r n e
used_at_sent count Signal r n e = cc
used_at_sent count Other r n e = cc

-- also with those that a bus message uses up, which were sent before it
pub used_before : (count : ℕ) (used : List ℕ) (k : Kind) (r : Option ℕ) → ((q : ℕ) → list_any (nat_eq q) used ≡ true → q ≤ count) → (q : ℕ) → list_any (nat_eq q) (used ++ used_at count k r) ≡ true → q ≤ count
used_before count used k r sent = sent_more used (used_at count k r) count count (omega arith) sent (used_at_sent count k r)

pub used_sent : (policy : Policy) (items : History) → AllSent (past policy items).used (length (past policy items).told.sent)
unfolding past after nothing_before used_by
used_sent policy [] r e = cc
used_sent policy (Msg Client m ∷ before) r e =
    let h : r ≤ length (past policy before).told.sent = used_sent policy before r e in
    rw length-append (omega (arith, h))
used_sent policy (Msg Bus m ∷ before) r e =
    let h : r ≤ length (past policy before).told.sent =
    sent_more (past policy before).used (used_at (length (past policy before).told.sent) (kind_of m) (reply_serial m))
    (length (past policy before).told.sent) (length (past policy before).told.sent) (omega arith) (used_sent policy before)
    (used_at_sent (length (past policy before).told.sent) (kind_of m) (reply_serial m)) r e in
    rw length-append (omega (arith, h))
used_sent policy (Line side bytes ∷ before) r e = used_sent policy before r e
used_sent policy (Raw side bytes ∷ before) r e = used_sent policy before r e
used_sent policy (Ended end ∷ before) r e = used_sent policy before r e

-- what an item causes is sent
pub sent_after : (policy : Policy) (past : Past) (item : Item) → (after policy item past).told.sent ≡ past.told.sent ++ due policy past item
unfolding after due
sent_after policy past (Msg Client m) = refl
sent_after policy past (Msg Bus m) = refl
sent_after policy past (Line side bytes) = sym (append-nil past.told.sent)
sent_after policy past (Raw side bytes) = sym (append-nil past.told.sent)
sent_after policy past (Ended end) = sym (append-nil past.told.sent)

-- within the serials
abbrev Fits : Policy → History → Type 0
Fits policy items = length (past policy items).told.sent ≤ most_sent

fits_placed : (policy : Policy) (before : History) (item : Item) → Fits policy before → Fits policy (placed policy (past policy before) item ∷ before)
unfolding placed past after
fits_placed policy before item f = fits_by (nat_le (length (past policy before).told.sent + length (due policy (past policy before) item)) most_sent) refl
  where
    fits_by : (b : Bool) → nat_le (length (past policy before).told.sent + length (due policy (past policy before) item)) most_sent ≡ b →
        length (after policy (if b then item else Ended SerialsSpent) (past policy before)).told.sent ≤ most_sent
    fits_by true h = rw (sent_after policy (past policy before) item, length-append) (grind (arith, nat_tests, h))
    fits_by false h = f

fits_unless : (last : Option End) (policy : Policy) (before : History) (item : Item) → Fits policy before → Fits policy (followed_unless last policy before item)
fits_unless (Some end) policy before item f = f
fits_unless None policy before item f = fits_placed policy before item f

fits_all : (policy : Policy) (before : History) (items : List Item) → Fits policy before → Fits policy (followed_by_all policy before items)
unfolding followed_by_all followed_by
fits_all policy before [] f = f
fits_all policy before (item ∷ items) f = fits_all policy (followed_by policy before item) items (fits_unless (end_of before) policy before item f)

-- no history sends more than its serials allow
pub sent_fits : (policy : Policy) (mode : Mode) (events : List Event) → Fits policy (history policy mode events)
unfolding history past nothing_before
sent_fits policy mode [] = lit≤ tt
sent_fits policy mode (event ∷ events) = fits_all policy (history policy mode events) (arrived mode events event) (sent_fits policy mode events)

ended_unless : (last : Option End) (policy : Policy) (before : History) (item : Item) (end : End) → last ≡ Some end →
    followed_unless last policy before item ≡ before
ended_unless None policy before item end e = cc
ended_unless (Some found) policy before item end e = refl

pub ended_all : (policy : Policy) (before : History) (items : List Item) (end : End) → end_of before ≡ Some end →
    followed_by_all policy before items ≡ before
unfolding followed_by_all followed_by
ended_all policy before [] end e = refl
ended_all policy before (item ∷ items) end e =
    let same : followed_by policy before item ≡ before = ended_unless (end_of before) policy before item end e in
    ap (λ (h : History). followed_by_all policy h items) same ∙ ended_all policy before items end e

-- an End is final
pub ended_is_final : (policy : Policy) (mode : Mode) (events : List Event) (event : Event) (end : End) →
    end_of (history policy mode events) ≡ Some end → history policy mode (event ∷ events) ≡ history policy mode events
unfolding history
ended_is_final policy mode events event end e = ended_all policy (history policy mode events) (arrived mode events event) end e

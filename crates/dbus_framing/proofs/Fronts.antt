-- What the head of the first message, and the message, say of the bytes that are left.
use Rattle.std.proofs.Common.{◌≡◌, ℕ, ◌<◌, ◌≤◌, Bool, true, false, cond, List, [], ◌++◌, length, take, drop, Option, Some, None, Result, Ok, Err, refl, sym, ap, subst, ◌∙◌, append-nil, arith, inl, inr}
use Rattle.std.specs.Prelude.{is_some, nat_lt, OnOk, OnErr}
use Rattle.std.proofs.lemmas.List.{length-append, take-append-drop, length-take-le, drop_all}
use Rattle.std.proofs.lemmas.Bool.{lt-ltb}
use Rattle.byte_lists.proofs.Bytes.{AreBytes-take}
use Rattle.byte_lists.specs.Bytes.{AreBytes}
use Rattle.byte_lists.proofs.Options.{some}
use Rattle.dbus_header.specs.Message.{Message, spell}
use Rattle.dbus_header.specs.Malformed.{front, fault, fault_in, head_fault, whole_len, whole}
use Rattle.dbus_header.proofs.StreamLaws.{front_parts, front-longer, same_head, whole_len_low, up, fault_of_head}
use Rattle.dbus_header.proofs.StreamSplits.{not_whole}
use Rattle.dbus_header.proofs.FaultStays.{fault-longer}
use Rattle.dbus_header.proofs.MessageRead.{front-is}
use Rattle.dbus_header.specs.declared.Malformed.{Malformed}
use Rattle.dbus_framing.specs.Framing.{IsPartial, Takes}
use Rattle.dbus_framing.specs.Knows.{Head, Knows}
use Rattle.dbus_framing.specs.declared.state.State.{State}
use Rattle.dbus_framing.specs.declared.state.State.TheVariants.{AwaitsHead, AwaitsMessage, Bad}

-- ---- the first bytes

longer : (bytes x : List ℕ) → 16 ≤ length bytes → 16 ≤ length (bytes ++ x)
longer bytes x h = rw (length-append bytes x) (up 16 (length bytes) (length x) h)

-- the head of a longer byte list says the same
pub head-longer : (bytes x : List ℕ) (len : ℕ) → Head bytes len → Head (bytes ++ x) len
head-longer bytes x len h =
    let same = same_head bytes x h.stands in
    record { stands = longer bytes x h.stands; good = same.0 ∙ h.good; states = same.1 ∙ h.states }

-- what is known stays when more bytes come
pub knows-longer : (state : State) (bytes x : List ℕ) → Knows state bytes → Knows state (bytes ++ x)
knows-longer AwaitsHead bytes x k = tt
knows-longer (AwaitsMessage len) bytes x k = head-longer bytes x len k
knows-longer (Bad f) bytes x k = fault-longer bytes x f k

-- after a push that succeeded or failed
pub knows-pushed : {T E : Type 0} (state : State) (r : Result T E) (old piece new : List ℕ) → OnOk r (new ≡ old ++ piece) → OnErr r (new ≡ old) → Knows state old → Knows state new
knows-pushed state (Ok u) old piece new ok err k = subst (Knows state) (sym ok) (knows-longer state old piece k)
knows-pushed state (Err e) old piece new ok err k = subst (Knows state) (sym err) k

pub bad-pushed : {T E : Type 0} (r : Result T E) (old piece new : List ℕ) → OnOk r (new ≡ old ++ piece) → OnErr r (new ≡ old) → (f : Malformed) → fault old ≡ Some f → fault new ≡ Some f
bad-pushed r old piece new ok err f k = knows-pushed (Bad f) r old piece new ok err k

-- what the first sixteen bytes say on their own
module _ (left first16 : List ℕ) (enough : 16 ≤ length left) (is : first16 ≡ take 16 left) where
  sixteen : length first16 ≡ 16
  sixteen = ap length is ∙ length-take-le 16 left enough

  at_least : 16 ≤ length first16
  at_least = omega (arith, sixteen)

  parts : first16 ++ drop 16 left ≡ left
  parts = ap (λ (t : List ℕ). t ++ drop 16 left) is ∙ take-append-drop 16 left

  pub head_known : (len : ℕ) → head_fault first16 ≡ None → len ≡ whole_len first16 → Head left len
  head_known len good states = subst (λ (t : List ℕ). Head t len) parts (head-longer first16 (drop 16 left) len (record { stands = at_least; good = good; states = sym states }))

  pub head_bad : (f : Malformed) → head_fault first16 ≡ Some f → fault left ≡ Some f
  head_bad f h = ap fault (sym parts) ∙ fault-longer first16 (drop 16 left) f (fault_of_head first16 f at_least h)

-- ---- no whole message

abbrev no_fault : Option Malformed
no_fault = None

none_both : (b : Bool) → cond b no_fault None ≡ None
none_both true = refl
none_both false = refl

module _ (bytes : List ℕ) where
  partial_cases : IsPartial bytes → (o : Option (Message × List ℕ)) → front bytes ≡ o → o ≡ None
  partial_cases p None e = refl
  partial_cases (inl lt) (Some x) e = let f = front_parts bytes x.0 x.1 e in absurd (omega (arith, lt, f.long))
  partial_cases (inr lt) (Some x) e = let f = front_parts bytes x.0 x.1 e in let less : length bytes < whole_len bytes = lt.1 in absurd (omega (arith, less, f.stands))

  partial-front : IsPartial bytes → front bytes ≡ None
  partial-front p = partial_cases p (front bytes) refl

  -- and there is no fault yet
  partial-fault : IsPartial bytes → fault bytes ≡ None
  unfolding fault
  partial-fault (inl lt) =
      ap (λ (b : Bool). cond b None (cond (is_some (head_fault bytes)) (head_fault bytes) (cond (nat_lt (length bytes) (whole_len bytes)) None (fault_in (whole (take (whole_len bytes) bytes)))))) (lt-ltb (length bytes) 16 lt)
  partial-fault (inr lt) =
      ap (λ (o : Option Malformed). cond (nat_lt (length bytes) 16) None (cond (is_some o) o (cond (nat_lt (length bytes) (whole_len bytes)) None (fault_in (whole (take (whole_len bytes) bytes)))))) lt.0
      ∙ ap (λ (b : Bool). cond (nat_lt (length bytes) 16) None (cond b None (fault_in (whole (take (whole_len bytes) bytes))))) (lt-ltb (length bytes) (whole_len bytes) lt.1)
      ∙ none_both (nat_lt (length bytes) 16)

pub at_rest : (bytes : List ℕ) → IsPartial bytes → IsPartial bytes × (front bytes ≡ None) × (fault bytes ≡ None)
at_rest bytes p = (p, partial-front bytes p, partial-fault bytes p)

pub too_short : (bytes : List ℕ) (len : ℕ) → Head bytes len → length bytes < len → IsPartial bytes
too_short bytes len head lt = inr (head.good, subst (λ (n : ℕ). length bytes < n) (sym head.states) lt)

-- ---- a whole message

module _ (left : List ℕ) (len : ℕ) (head : Head left len) (stands : len ≤ length left) where
  pub message_len : length (take len left) ≡ len
  message_len = length-take-le len left stands

  low : 16 ≤ len
  low = subst (λ (n : ℕ). 16 ≤ n) head.states (whole_len_low left)

  pub message_long : 16 ≤ length (take len left)
  message_long = omega (arith, message_len, low)

  same : (head_fault left ≡ head_fault (take len left)) × (whole_len left ≡ whole_len (take len left))
  same =
      subst (λ (t : List ℕ). (head_fault t ≡ head_fault (take len left)) × (whole_len t ≡ whole_len (take len left))) (take-append-drop len left)
      (same_head (take len left) (drop len left) message_long)

  -- its head is good
  pub message_good : head_fault (take len left) ≡ None
  message_good = sym same.0 ∙ head.good

  -- and states its length
  pub message_states : whole_len (take len left) ≡ len
  message_states = sym same.1 ∙ head.states

  pub message_exact : length (take len left) ≡ whole_len (take len left)
  message_exact = message_len ∙ sym message_states

  -- its fault is that of all bytes
  pub message_bad : (f : Malformed) → fault (take len left) ≡ Some f → fault left ≡ Some f
  message_bad f e = ap fault (sym (take-append-drop len left)) ∙ fault-longer (take len left) (drop len left) f e

  nothing_behind : (m : Message) (r : List ℕ) → front (take len left) ≡ Some (m, r) → r ≡ []
  nothing_behind m r e =
      let f = front_parts (take len left) m r e in
      sym f.rest ∙ drop_all (whole_len (take len left)) (take len left) (omega (arith, message_exact))

  -- with no fault it is valid, and what follows is left
  pub message_taken : AreBytes left → fault (take len left) ≡ None → (m : Message) × Takes left (take len left) (drop len left) m
  message_taken are none = go (front (take len left)) refl
    where
      go : (o : Option (Message × List ℕ)) → front (take len left) ≡ o → (m : Message) × Takes left (take len left) (drop len left) m
      go None e = absurd (elim (not_whole (take len left) e none) [
        | inl lt ↦ omega (arith, lt, message_long)
        | inr lt ↦ omega (arith, lt, message_exact)
      ])
      go (Some x) e =
          let is = front-is (take len left) x.0 x.1 (AreBytes-take len left are) e in
          let nil : x.1 ≡ [] = nothing_behind x.0 x.1 e in (
            x.0,
            record {
              valid = is.0;
              in_front = ap front (sym (take-append-drop len left)) ∙ front-longer (take len left) (drop len left) x.0 x.1 e ∙ ap (λ (t : List ℕ). some (x.0, t ++ drop len left)) nil;
              spelled = is.1 ∙ ap (λ (t : List ℕ). spell x.0 ++ t) nil ∙ append-nil (spell x.0);
              parts = sym (take-append-drop len left);
            },
          )

-- The messages of a stream are the one way to split it: valid messages, and a rest that begins with none.
use Rattle.std.proofs.Common.{◌≡◌, ℕ, zero, suc, ◌<◌, ◌≤◌, Bool, cond, List, [], ◌∷◌, ◌++◌, length, take, drop, Option, Some, None, Result, Ok, Err, refl, sym, ap, subst, ◌∙◌, append_assoc, arith, inl, inr}
use Rattle.std.specs.Prelude.{◌⊎◌, is_some, is_none, nat_lt}
use Rattle.std.specs.List.{flat_map, AllByRecursion}
use Rattle.std.proofs.lemmas.Bool.{cases_lt, le-ltb}
use Rattle.std.proofs.lemmas.Option.{none-some}
use Rattle.byte_lists.proofs.Bytes.{AreBytes-behind}
use Rattle.byte_lists.specs.Bytes.{AreBytes}
use Rattle.dbus_header.specs.Message.{Message, Valid, spell}
use Rattle.dbus_header.specs.Malformed.{front, fault, fault_in, head_fault, whole_len, whole, message_in}
use Rattle.dbus_header.specs.Stream.{Splits, more, split_by, split, messages, rest}
use Rattle.dbus_header.proofs.StreamLaws.{front_from_parts, front-shorter, front-longer, enough}
use Rattle.dbus_header.proofs.MessageAgain.{front-spell}
use Rattle.dbus_header.proofs.MessageRead.{front-is}
use Rattle.dbus_header.specs.declared.Malformed.{Malformed}

-- each message that was read is spelled so, and nothing more can be read
record Split (n : ℕ) (s : List ℕ) : Type 0 where
  parts : s ≡ flat_map spell (split_by front n s).0 ++ (split_by front n s).1
  each : AllByRecursion Valid (split_by front n s).0
  last : front (split_by front n s).1 ≡ None

abbrev Parts : List ℕ → List Message × List ℕ → Type 0
Parts s x = (s ≡ flat_map spell x.0 ++ x.1) × AllByRecursion Valid x.0 × (front x.1 ≡ None)

parts_are : (n : ℕ) (s : List ℕ) → AreBytes s → length s ≤ n → Parts s (split_by front n s)
unfolding front
parts_are zero [] h p = (refl, tt, refl)
parts_are zero (b ∷ s) h p = absurd (omega (arith, p))
parts_are (suc n) s h p = go (parts_are n) (front s) refl
  where
    go : ((r : List ℕ) → AreBytes r → length r ≤ n → Parts r (split_by front n r)) → (o : Option (Message × List ℕ)) → front s ≡ o → Parts s (more o s (split_by front n))
    go ih None e = (refl, tt, e)
    go ih (Some x) e =
        let is = front-is s x.0 x.1 h e in
        let less : length x.1 < length s = front-shorter s x.0 x.1 e in
        let r = ih x.1 (AreBytes-behind (spell x.0) x.1 (subst AreBytes is.1 h)) (omega (arith, less, p)) in
        (is.1 ∙ ap (λ (t : List ℕ). spell x.0 ++ t) r.0 ∙ sym (append_assoc (spell x.0) (flat_map spell (split_by front n x.1).0) (split_by front n x.1).1), (is.0, r.1), r.2)

-- the stream is split so
pub splits : (s : List ℕ) → AreBytes s → Splits s (messages s) (rest s)
unfolding split
splits s h =
    let p = parts_are (length s) s h (omega arith) in
    record { parts = p.0; each = p.1; longest = λ m more valid e. none-some (m, more) (sym p.2 ∙ ap front e ∙ front-spell m more valid) }

-- and no other way
pub only_split : (ms : List Message) (s r : List ℕ) → AreBytes s → Splits s ms r → split s ≡ (ms, r)
unfolding split
only_split [] s r h p = go (front s) refl
  where
    step : (o : Option (Message × List ℕ)) → front s ≡ o → split s ≡ more o s (split_by front (length s))
    step o e = enough front front-shorter front-longer (length s) (suc (length s)) s (omega arith) (omega arith) ∙ ap (λ (q : Option (Message × List ℕ)). more q s (split_by front (length s))) e

    go : (o : Option (Message × List ℕ)) → front s ≡ o → split s ≡ ([], r)
    go None e = step None e ∙ ap (λ (t : List ℕ). ([], t)) p.parts
    go (Some x) e = let is = front-is s x.0 x.1 h e in absurd (p.longest x.0 x.1 is.0 (sym p.parts ∙ is.1))
only_split (m ∷ ms) s r h p =
    let tail = flat_map spell ms ++ r in
    let whole_is : s ≡ spell m ++ tail = p.parts ∙ append_assoc (spell m) (flat_map spell ms) r in
    let read : front s ≡ Some (m, tail) = ap front whole_is ∙ front-spell m tail p.each.0 in
    let tail_bytes : AreBytes tail = AreBytes-behind (spell m) tail (subst AreBytes whole_is h) in
    let less : length tail < length s = front-shorter s m tail read in
    let rest_split : split tail ≡ (ms, r) = only_split ms tail r tail_bytes (record { parts = refl; each = p.each.1; longest = p.longest }) in
    enough front front-shorter front-longer (length s) (suc (length s)) s (omega arith) (omega arith)
    ∙ ap (λ (q : Option (Message × List ℕ)). more q s (split_by front (length s))) read
    ∙ ap (λ (q : List Message × List ℕ). (m ∷ q.0, q.1)) (enough front front-shorter front-longer (length s) (length tail) tail (omega (arith, less)) (omega arith) ∙ rest_split)

-- if no message is read and no fault is found, the message isn't whole yet
pub not_whole : (s : List ℕ) → front s ≡ None → fault s ≡ None → (length s < 16) ⊎ (length s < whole_len s)
unfolding fault
not_whole s f g = go (cases_lt (length s) 16)
  where
    no_whole : (w : Result Message Malformed) → 16 ≤ length s → head_fault s ≡ None → whole_len s ≤ length s → whole (take (whole_len s) s) ≡ w → (length s < 16) ⊎ (length s < whole_len s)
    no_whole (Ok m) long h stands w = absurd (none-some (m, drop (whole_len s) s) (sym f ∙ front_from_parts s m (drop (whole_len s) s) (record { long = long; sound = ap is_none h; stands = stands; is = ap message_in w; rest = refl })))
    no_whole (Err e) long h stands w = absurd (none-some e (sym g ∙
        ap (λ (b : Bool). cond b None (cond (is_some (head_fault s)) (head_fault s) (cond (nat_lt (length s) (whole_len s)) None (fault_in (whole (take (whole_len s) s)))))) (le-ltb (length s) 16 long)
        ∙ ap (λ (x : Option Malformed). cond (is_some x) x (cond (nat_lt (length s) (whole_len s)) None (fault_in (whole (take (whole_len s) s))))) h
        ∙ ap (λ (b : Bool). cond b None (fault_in (whole (take (whole_len s) s)))) (le-ltb (length s) (whole_len s) stands)
        ∙ ap fault_in w))

    no_head : (h : Option Malformed) → 16 ≤ length s → head_fault s ≡ h → (length s < 16) ⊎ (length s < whole_len s)
    no_head None long h = elim (cases_lt (length s) (whole_len s)) [ inl lt ↦ inr lt | inr le ↦ no_whole (whole (take (whole_len s) s)) long h le refl ]
    no_head (Some e) long h = absurd (none-some e (sym g ∙
        ap (λ (b : Bool). cond b None (cond (is_some (head_fault s)) (head_fault s) (cond (nat_lt (length s) (whole_len s)) None (fault_in (whole (take (whole_len s) s)))))) (le-ltb (length s) 16 long)
        ∙ ap (λ (x : Option Malformed). cond (is_some x) x (cond (nat_lt (length s) (whole_len s)) None (fault_in (whole (take (whole_len s) s))))) h))

    go : ((length s < 16) ⊎ (16 ≤ length s)) → (length s < 16) ⊎ (length s < whole_len s)
    go (inl lt) = inl lt
    go (inr le) = no_head (head_fault s) le refl

-- A stream's fault stays when more bytes come, and so do the messages before it.
use Rattle.std.proofs.Common.{◌≡◌, ℕ, ◌+◌, ◌≤◌, Bool, true, false, cond, List, [], ◌∷◌, ◌++◌, length, take, Option, Some, None, Result, Ok, Err, refl, ap, ◌∙◌, append-nil}
use Rattle.std.specs.Prelude.{is_some, is_none, nat_lt}
use Rattle.std.proofs.lemmas.List.{length-append, take-append-le}
use Rattle.std.proofs.lemmas.Bool.{ltb-false, le-ltb}
use Rattle.dbus_header.specs.Message.{Message}
use Rattle.dbus_header.specs.Malformed.{front, fault, fault_in, head_fault, whole_len, whole, message_in}
use Rattle.dbus_header.specs.Stream.{more, split_by, split, messages, rest, bad}
use Rattle.dbus_header.proofs.StreamLaws.{front_parts, same_head, split-append, up, fault_of_head}
use Rattle.dbus_header.specs.declared.Malformed.{Malformed}

-- how a fault was found: in the first sixteen bytes, or in the whole message that these state
data Found (bytes : List ℕ) (f : Malformed) : Type 0 where
  in_head : head_fault bytes ≡ Some f → 16 ≤ length bytes → Found bytes f
  in_whole : head_fault bytes ≡ None → 16 ≤ length bytes → whole_len bytes ≤ length bytes → fault_in (whole (take (whole_len bytes) bytes)) ≡ Some f → Found bytes f

found : (bytes : List ℕ) (f : Malformed) → fault bytes ≡ Some f → Found bytes f
unfolding fault
found bytes f e = long (nat_lt (length bytes) 16) refl e
  where
    behind_head : Option Malformed
    behind_head = cond (nat_lt (length bytes) (whole_len bytes)) None (fault_in (whole (take (whole_len bytes) bytes)))

    stands : 16 ≤ length bytes → head_fault bytes ≡ None → (b : Bool) → nat_lt (length bytes) (whole_len bytes) ≡ b → cond b None (fault_in (whole (take (whole_len bytes) bytes))) ≡ Some f → Found bytes f
    stands l n true h e = absurd cc
    stands l n false h e = in_whole n l (ltb-false (length bytes) (whole_len bytes) h) e

    head : 16 ≤ length bytes → (o : Option Malformed) → head_fault bytes ≡ o → cond (is_some o) o behind_head ≡ Some f → Found bytes f
    head l (Some g) h e = in_head (h ∙ e) l
    head l None h e = stands l h (nat_lt (length bytes) (whole_len bytes)) refl e

    long : (b : Bool) → nat_lt (length bytes) 16 ≡ b → cond b None (cond (is_some (head_fault bytes)) (head_fault bytes) behind_head) ≡ Some f → Found bytes f
    long true h e = absurd cc
    long false h e = head (ltb-false (length bytes) 16 h) (head_fault bytes) refl e

told : (bytes : List ℕ) (f : Malformed) → Found bytes f → fault bytes ≡ Some f
unfolding fault
told bytes f (in_head h l) = fault_of_head bytes f l h
told bytes f (in_whole h l s e) =
    ap (λ (b : Bool). cond b None (cond (is_some (head_fault bytes)) (head_fault bytes) (cond (nat_lt (length bytes) (whole_len bytes)) None (fault_in (whole (take (whole_len bytes) bytes)))))) (le-ltb (length bytes) 16 l)
    ∙ ap (λ (o : Option Malformed). cond (is_some o) o (cond (nat_lt (length bytes) (whole_len bytes)) None (fault_in (whole (take (whole_len bytes) bytes))))) h
    ∙ ap (λ (b : Bool). cond b None (fault_in (whole (take (whole_len bytes) bytes)))) (le-ltb (length bytes) (whole_len bytes) s)
    ∙ e

-- the fault of bytes is that of any longer ones
pub fault-longer : (bytes x : List ℕ) (f : Malformed) → fault bytes ≡ Some f → fault (bytes ++ x) ≡ Some f
fault-longer bytes x f e = told (bytes ++ x) f (go (found bytes f e))
  where
    len : length (bytes ++ x) ≡ length bytes + length x
    len = length-append bytes x

    go : Found bytes f → Found (bytes ++ x) f
    go (in_head h l) = let same = same_head bytes x l in in_head (same.0 ∙ h) (rw len (up 16 (length bytes) (length x) l))
    go (in_whole h l s e) =
        let same = same_head bytes x l in
        in_whole (same.0 ∙ h) (rw len (up 16 (length bytes) (length x) l)) (rw (same.1, len) (up (whole_len bytes) (length bytes) (length x) s))
        (ap (λ (n : ℕ). fault_in (whole (take n (bytes ++ x)))) same.1 ∙ ap (λ (t : List ℕ). fault_in (whole t)) (take-append-le (whole_len bytes) bytes x s) ∙ e)

-- with a fault no valid message is first
pub fault_front : (bytes : List ℕ) (f : Malformed) → fault bytes ≡ Some f → front bytes ≡ None
fault_front bytes f e = go (found bytes f e) (front bytes) refl
  where
    no_head : (o : Option Malformed) → is_none o ≡ true → o ≡ Some f → ⊥
    no_head None p q = absurd cc
    no_head (Some g) p q = absurd cc

    no_whole : (m : Message) (r : Result Message Malformed) → message_in r ≡ Some m → fault_in r ≡ Some f → ⊥
    no_whole m (Ok n) p q = absurd cc
    no_whole m (Err g) p q = absurd cc

    go : Found bytes f → (o : Option (Message × List ℕ)) → front bytes ≡ o → o ≡ None
    go x None h = refl
    go (in_head k l) (Some m) h = let p = front_parts bytes m.0 m.1 h in absurd (no_head (head_fault bytes) p.sound k)
    go (in_whole k l s q) (Some m) h = let p = front_parts bytes m.0 m.1 h in absurd (no_whole m.0 (whole (take (whole_len bytes) bytes)) p.is q)

-- a stream that no message begins is all rest
pub split_none : (s : List ℕ) → front s ≡ None → split s ≡ ([], s)
unfolding split
split_none [] e = refl
split_none (b ∷ s) e = ap (λ (o : Option (Message × List ℕ)). more o (b ∷ s) (split_by front (length s))) e

pub bad-stays : (s x : List ℕ) (f : Malformed) → bad s ≡ Some f → (messages (s ++ x) ≡ messages s) × (bad (s ++ x) ≡ Some f)
bad-stays s x f e =
    let longer : fault (rest s ++ x) ≡ Some f = fault-longer (rest s) x f e in
    let none : split (rest s ++ x) ≡ ([], rest s ++ x) = split_none (rest s ++ x) (fault_front (rest s ++ x) f longer) in
    let whole : split (s ++ x) ≡ (messages s, rest s ++ x) =
    split-append s x ∙ ap (λ (p : List Message × List ℕ). (messages s ++ p.0, p.1)) none ∙ ap (λ (ms : List Message). (ms, rest s ++ x)) (append-nil (messages s)) in
    (ap (λ (p : List Message × List ℕ). p.0) whole, ap (λ (p : List Message × List ℕ). fault p.1) whole ∙ longer)

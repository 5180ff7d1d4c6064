-- A stream's first message is read from the bytes that its first sixteen state.
use Rattle.std.proofs.Common.{◌≡◌, ℕ, ◌≤◌, Bool, true, cond, List, [], length, take, drop, Option, Some, None, option_map, refl, sym, ap, ◌∙◌, arith}
use Rattle.std.specs.Prelude.{not, nat_lt, is_none, is_some}
use Rattle.std.proofs.lemmas.List.{take-append-drop, length-take-le, length-drop, nil_from_length}
use Rattle.std.proofs.lemmas.Bool.{le-ltb, and_from}
use Rattle.std.proofs.lemmas.Option.{same_Some}
use Rattle.byte_lists.proofs.Bytes.{AreBytes-take}
use Rattle.byte_lists.specs.Bytes.{AreBytes}
use Rattle.dbus_names.specs.Names.{is_empty}
use Rattle.dbus_values.specs.Reading.{◌>>=◌, when}
use Rattle.dbus_header.specs.Message.{Message}
use Rattle.dbus_header.specs.Malformed.{head_fault, whole_len, whole, has_whole, fault, fault_in, front, message_in}
use Rattle.dbus_header.specs.Contents.{Contents, contents_of, message_of}
use Rattle.dbus_header.specs.declared.Malformed.{Malformed}
use Rattle.dbus_header.proofs.StreamLaws.{same_head, whole_len_low}
use Rattle.dbus_header.proofs.WholeMessage.{IsWhole, fault_of_whole, take_all}
use Rattle.dbus_header.proofs.NumberLaws.{OfBytes, message_of-is}

-- the first bytes, sixteen at least, state what all of them do
pub record SameStart (n : ℕ) (s : List ℕ) : Type 0 where
  pub head : head_fault (take n s) ≡ head_fault s
  pub len : whole_len (take n s) ≡ whole_len s

pub of_start : (n : ℕ) (s : List ℕ) → 16 ≤ n → n ≤ length s → SameStart n s
of_start n s low high =
    let same = same_head (take n s) (drop n s) (omega (arith, length-take-le n s high)) in
    record {
      head = sym same.0 ∙ ap head_fault (take-append-drop n s);
      len = sym same.1 ∙ ap whole_len (take-append-drop n s);
    }

-- a whole message is first, valid or not
pub record Stands (s : List ℕ) : Type 0 where
  pub are : AreBytes s
  pub long : 16 ≤ length s
  pub head : head_fault s ≡ None
  pub inside : whole_len s ≤ length s

abbrev pub first_of : List ℕ → List ℕ
first_of s = take (whole_len s) s

pub first_whole : (s : List ℕ) → Stands s → IsWhole (first_of s)
first_whole s stands =
    let same = of_start (whole_len s) s (whole_len_low s) stands.inside in
    let len : length (first_of s) ≡ whole_len s = length-take-le (whole_len s) s stands.inside in
    record {
      are = AreBytes-take (whole_len s) s stands.are;
      long = omega (arith, len, whole_len_low s);
      head = same.head ∙ stands.head;
      exact = len ∙ sym same.len;
    }

-- its fault is the stream's
pub fault_of_first : (s : List ℕ) → Stands s → fault s ≡ fault (first_of s)
unfolding fault
fault_of_first s stands =
    let inside = stands.inside in
    ap (λ (b : Bool). cond b none (cond (is_some (head_fault s)) (head_fault s) (cond (nat_lt (length s) (whole_len s)) none (fault_in (whole (first_of s)))))) (le-ltb (length s) 16 stands.long)
    ∙ ap (λ (h : Option Malformed). cond (is_some h) h (cond (nat_lt (length s) (whole_len s)) none (fault_in (whole (first_of s))))) stands.head
    ∙ ap (λ (b : Bool). cond b none (fault_in (whole (first_of s)))) (le-ltb (length s) (whole_len s) inside)
    ∙ sym (fault_of_whole (first_of s) (first_whole s stands))
  where
    none : Option Malformed
    none = None

has_whole_is : (s : List ℕ) → 16 ≤ length s → head_fault s ≡ None → whole_len s ≤ length s → has_whole s ≡ true
has_whole_is s long head inside = and_from _ _ (and_from _ _ (ap not (le-ltb (length s) 16 long)) (ap is_none head)) (ap not (le-ltb (length s) (whole_len s) inside))

abbrev behind : List ℕ → Message → Option (Message × List ℕ)
behind rest m = Some (m, rest)

-- of exact bytes
message_in_whole : (t : List ℕ) → IsWhole t → message_of t ≡ message_in (whole t)
unfolding message_of front
message_in_whole t w =
    let exact = w.exact in
    let all : drop (whole_len t) t ≡ [] = nil_from_length (drop (whole_len t) t) (omega (arith, length-drop (whole_len t) t)) in
    ap (λ (b : Bool). cond b (message_in (whole (take (whole_len t) t)) >>= behind (drop (whole_len t) t)) none >>= λ x. when (is_empty x.1) x.0) (has_whole_is t w.long w.head (omega arith))
    ∙ ap (λ (x : List ℕ). (message_in (whole x) >>= behind (drop (whole_len t) t)) >>= λ y. when (is_empty y.1) y.0) (take_all (whole_len t) t (sym exact))
    ∙ ap (λ (r : List ℕ). (message_in (whole t) >>= behind r) >>= λ y. when (is_empty y.1) y.0) all
    ∙ by (message_in (whole t))
  where
    none : Option (Message × List ℕ)
    none = None

    by : (o : Option Message) → ((o >>= behind []) >>= λ y. when (is_empty y.1) y.0) ≡ o
    by None = refl
    by (Some m) = refl

-- and the first message is the one that the first bytes are
pub front_of_first : (s : List ℕ) → Stands s → front s ≡ option_map (λ m. (m, drop (whole_len s) s)) (message_of (first_of s))
unfolding front
front_of_first s stands =
    ap (λ (b : Bool). cond b (message_in (whole (first_of s)) >>= behind (drop (whole_len s) s)) none) (has_whole_is s stands.long stands.head stands.inside)
    ∙ ap (λ (o : Option Message). o >>= behind (drop (whole_len s) s)) (sym (message_in_whole (first_of s) (first_whole s stands)))
    ∙ by (message_of (first_of s))
  where
    none : Option (Message × List ℕ)
    none = None

    by : (o : Option Message) → (o >>= behind (drop (whole_len s) s)) ≡ option_map (λ m. (m, drop (whole_len s) s)) o
    by None = refl
    by (Some m) = refl

-- ---- what was read

-- the message that was read, whose contents are these
pub record IsRead (bytes : List ℕ) (x : Contents) : Type 0 where
  pub message : Message
  pub is : message_of bytes ≡ Some message
  pub contents : contents_of message ≡ x
  pub of_bytes : OfBytes bytes message

pub is_read : (bytes : List ℕ) (x : Contents) → AreBytes bytes → option_map contents_of (message_of bytes) ≡ Some x → IsRead bytes x
is_read bytes x are e = by (message_of bytes) refl e
  where
    by : (o : Option Message) → message_of bytes ≡ o → option_map contents_of o ≡ Some x → IsRead bytes x
    by None is e = absurd cc
    by (Some m) is e = record { message = m; is = is; contents = same_Some (contents_of m) x e; of_bytes = message_of-is bytes m are is }

-- A stream that goes on keeps its messages: those of the rest with the new bytes follow them.
use Rattle.std.proofs.Common.{◌≡◌, ℕ, zero, suc, ◌+◌, ◌-◌, ◌<◌, ◌≤◌, Bool, true, false, cond, List, [], ◌∷◌, ◌++◌, length, take, drop, Option, Some, None, refl, sym, ap, ◌∙◌, arith}
use Rattle.std.proofs.lemmas.List.{length-append, take-append-le, drop-append-le, length-drop}
use Rattle.std.proofs.lemmas.Bool.{and_parts, and_from, not-true, ltb-false, le-ltb}
use Rattle.std.specs.Prelude.{not, ◌&&◌, is_none, nat_lt, is_some}
use Rattle.std.proofs.lemmas.Option.{same_Some}
use Rattle.byte_lists.proofs.Options.{some}
use Rattle.dbus_values.specs.Reading.{◌>>=◌}
use Rattle.dbus_values.proofs.ValueRead.{bound}
use Rattle.dbus_header.specs.Message.{Message}
use Rattle.dbus_header.specs.Malformed.{head_fault, whole_len, has_whole, whole, message_in, front, fault, fault_in}
use Rattle.dbus_header.specs.Stream.{more, split_by, split, messages, rest}
use Rattle.dbus_header.specs.declared.Malformed.{Malformed}

-- ---- streams of anything that is read from the start

abbrev behind : {A : Type 0} → (List ℕ → Option (A × List ℕ)) → List A × List ℕ → List ℕ → List A × List ℕ
behind front p x = let r = split_by front (length (p.1 ++ x)) (p.1 ++ x) in (p.0 ++ r.0, r.1)

module _ {A : Type 0} (front : List ℕ → Option (A × List ℕ)) (shorter : (s : List ℕ) (a : A) (r : List ℕ) → front s ≡ Some (a, r) → length r < length s) (longer : (s x : List ℕ) (a : A) (r : List ℕ) → front s ≡ Some (a, r) → front (s ++ x) ≡ Some (a, r ++ x)) where
  -- any number from the length on is enough
  pub enough : (n k : ℕ) (s : List ℕ) → length s ≤ n → length s ≤ k → split_by front n s ≡ split_by front k s
  enough zero zero s p q = refl
  enough zero (suc k) s p q = go (front s) refl
    where
      go : (o : Option (A × List ℕ)) → front s ≡ o → ([], s) ≡ more o s (split_by front k)
      go None e = refl
      go (Some x) e = let lt : length x.1 < length s = shorter s x.0 x.1 e in absurd (omega (arith, lt, p))
  enough (suc n) zero s p q = go (front s) refl
    where
      go : (o : Option (A × List ℕ)) → front s ≡ o → more o s (split_by front n) ≡ ([], s)
      go None e = refl
      go (Some x) e = let lt : length x.1 < length s = shorter s x.0 x.1 e in absurd (omega (arith, lt, q))
  enough (suc n) (suc k) s p q = go (enough n k) (front s) refl
    where
      go : ((r : List ℕ) → length r ≤ n → length r ≤ k → split_by front n r ≡ split_by front k r) → (o : Option (A × List ℕ)) → front s ≡ o → more o s (split_by front n) ≡ more o s (split_by front k)
      go ih None e = refl
      go ih (Some x) e =
          let lt : length x.1 < length s = shorter s x.0 x.1 e in
          ap (λ (r : List A × List ℕ). (x.0 ∷ r.0, r.1)) (ih x.1 (omega (arith, lt, p)) (omega (arith, lt, q)))

  further : (n : ℕ) (s x : List ℕ) → length s ≤ n → split_by front (length (s ++ x)) (s ++ x) ≡ behind front (split_by front n s) x
  further zero s x p = refl
  further (suc n) s x p = go (further n) (front s) refl
    where
      go : ((r y : List ℕ) → length r ≤ n → split_by front (length (r ++ y)) (r ++ y) ≡ behind front (split_by front n r) y) → (o : Option (A × List ℕ)) → front s ≡ o → split_by front (length (s ++ x)) (s ++ x) ≡ behind front (more o s (split_by front n)) x
      go ih None e = refl
      go ih (Some y) e =
          let lt : length y.1 < length s = shorter s y.0 y.1 e in
          let more_is : front (s ++ x) ≡ Some (y.0, y.1 ++ x) = longer s x y.0 y.1 e in
          let less : length (y.1 ++ x) < length (s ++ x) = shorter (s ++ x) y.0 (y.1 ++ x) more_is in
          enough (length (s ++ x)) (suc (length (s ++ x))) (s ++ x) (omega arith) (omega arith)
          ∙ ap (λ (o : Option (A × List ℕ)). more o (s ++ x) (split_by front (length (s ++ x)))) more_is
          ∙ ap (λ (r : List A × List ℕ). (y.0 ∷ r.0, r.1)) (enough (length (s ++ x)) (length (y.1 ++ x)) (y.1 ++ x) (omega (arith, less)) (omega arith) ∙ ih y.1 x (omega (arith, lt, p)))

-- ---- messages

-- the first sixteen bytes decide on their own
abbrev pub SameHead : List ℕ → List ℕ → Type 0
SameHead bytes x = (head_fault (bytes ++ x) ≡ head_fault bytes) × (whole_len (bytes ++ x) ≡ whole_len bytes)

pub same_head : (bytes x : List ℕ) → 16 ≤ length bytes → SameHead bytes x
unfolding head_fault
same_head (a ∷ b ∷ c ∷ d ∷ e ∷ f ∷ g ∷ h ∷ i ∷ j ∷ k ∷ l ∷ m ∷ n ∷ o ∷ p ∷ bytes) x long = (refl, refl)
same_head _ x long = absurd (omega (arith, long))

-- a test that held
where_true : {B : Type 0} (b : Bool) (x : Option B) (y : B) → cond b x None ≡ Some y → (b ≡ true) × (x ≡ Some y)
where_true true x y e = (refl, e)
where_true false x y e = absurd cc

-- a fault of the first sixteen bytes is one of the bytes
pub fault_of_head : (t : List ℕ) (f : Malformed) → 16 ≤ length t → head_fault t ≡ Some f → fault t ≡ Some f
unfolding fault
fault_of_head t f long e =
    ap (λ (b : Bool). cond b None (cond (is_some (head_fault t)) (head_fault t) (cond (nat_lt (length t) (whole_len t)) none (fault_in (whole (take (whole_len t) t)))))) (le-ltb (length t) 16 long)
    ∙ ap (λ (h : Option Malformed). cond (is_some h) h (cond (nat_lt (length t) (whole_len t)) none (fault_in (whole (take (whole_len t) t))))) e
  where
    none : Option Malformed
    none = None

-- the first message was read: it is whole, it is m, and the rest follows it
pub record Fronts (s : List ℕ) (m : Message) (r : List ℕ) : Type 0 where
  pub long : 16 ≤ length s
  pub sound : is_none (head_fault s) ≡ true
  pub stands : whole_len s ≤ length s
  pub is : message_in (whole (take (whole_len s) s)) ≡ Some m
  pub rest : drop (whole_len s) s ≡ r

pub front_parts : (s : List ℕ) (m : Message) (r : List ℕ) → front s ≡ Some (m, r) → Fronts s m r
unfolding front
front_parts s m r e =
    let w = where_true (has_whole s) (message_in (whole (take (whole_len s) s)) >>= λ n. Some (n, drop (whole_len s) s)) (m, r) e in
    let b = bound (message_in (whole (take (whole_len s) s))) (λ n. Some (n, drop (whole_len s) s)) (m, r) w.1 in
    let two : (b.0, drop (whole_len s) s) ≡ (m, r) = same_Some (b.0, drop (whole_len s) s) (m, r) b.2 in
    let t = and_parts (not (nat_lt (length s) 16) && is_none (head_fault s)) (not (nat_lt (length s) (whole_len s))) w.0 in
    let u = and_parts (not (nat_lt (length s) 16)) (is_none (head_fault s)) t.0 in
    record {
      long = ltb-false (length s) 16 (not-true (nat_lt (length s) 16) u.0);
      sound = u.1;
      stands = ltb-false (length s) (whole_len s) (not-true (nat_lt (length s) (whole_len s)) t.1);
      is = b.1 ∙ ap (λ (p : Message × List ℕ). some p.0) two;
      rest = ap (λ (p : Message × List ℕ). p.1) two;
    }

pub front_from_parts : (s : List ℕ) (m : Message) (r : List ℕ) → Fronts s m r → front s ≡ Some (m, r)
unfolding front
front_from_parts s m r f =
    let long : not (nat_lt (length s) 16) ≡ true = ap not (le-ltb (length s) 16 f.long) in
    let stands : not (nat_lt (length s) (whole_len s)) ≡ true = ap not (le-ltb (length s) (whole_len s) f.stands) in
    let has : has_whole s ≡ true = and_from _ _ (and_from _ _ long f.sound) stands in
    ap (λ (b : Bool). cond b (message_in (whole (take (whole_len s) s)) >>= λ n. some (n, drop (whole_len s) s)) None) has
    ∙ ap (λ (o : Option Message). o >>= λ n. some (n, drop (whole_len s) s)) f.is
    ∙ ap (λ (t : List ℕ). some (m, t)) f.rest

-- a whole message has sixteen bytes at least
pub whole_len_low : (s : List ℕ) → 16 ≤ whole_len s
whole_len_low s = omega arith

pub front-shorter : (s : List ℕ) (m : Message) (r : List ℕ) → front s ≡ Some (m, r) → length r < length s
front-shorter s m r e =
    let f = front_parts s m r e in
    let len : length (drop (whole_len s) s) ≡ length s - whole_len s = length-drop (whole_len s) s in
    let same : length (drop (whole_len s) s) ≡ length r = ap length f.rest in
    let low : 16 ≤ whole_len s = whole_len_low s in
    below (whole_len s) (length s) (length r) low f.stands (sym same ∙ len)
  where
    below : (w n k : ℕ) → 16 ≤ w → w ≤ n → k ≡ n - w → k < n
    below w n k p q h = omega arith

pub up : (a b c : ℕ) → a ≤ b → a ≤ b + c
up a b c h = omega arith

-- what was read is read again when more bytes follow
pub front-longer : (s x : List ℕ) (m : Message) (r : List ℕ) → front s ≡ Some (m, r) → front (s ++ x) ≡ Some (m, r ++ x)
front-longer s x m r e =
    let f = front_parts s m r e in
    let same = same_head s x f.long in
    let len : length (s ++ x) ≡ length s + length x = length-append s x in
    front_from_parts (s ++ x) m (r ++ x) (record {
      long = rw len (up 16 (length s) (length x) f.long);
      sound = ap is_none same.0 ∙ f.sound;
      stands = rw (same.1, len) (up (whole_len s) (length s) (length x) f.stands);
      is = ap (λ (n : ℕ). message_in (whole (take n (s ++ x)))) same.1 ∙ ap (λ (t : List ℕ). message_in (whole t)) (take-append-le (whole_len s) s x f.stands) ∙ f.is;
      rest = ap (λ (n : ℕ). drop n (s ++ x)) same.1 ∙ drop-append-le (whole_len s) s x f.stands ∙ ap (λ (t : List ℕ). t ++ x) f.rest;
    })

-- the message that `front` reads is the first, and what follows has the others
pub split-front : (s : List ℕ) (m : Message) (tail : List ℕ) → front s ≡ Some (m, tail) → split s ≡ (m ∷ messages tail, rest tail)
unfolding split
split-front s m tail e =
    let less : length tail < length s = front-shorter s m tail e in
    enough front front-shorter front-longer (length s) (suc (length s)) s (omega arith) (omega arith)
    ∙ ap (λ (q : Option (Message × List ℕ)). more q s (split_by front (length s))) e
    ∙ ap (λ (q : List Message × List ℕ). (m ∷ q.0, q.1)) (enough front front-shorter front-longer (length s) (length tail) tail (omega (arith, less)) (omega arith))

-- the messages of a longer stream are those of the shorter, and then those of its rest with what is new
pub split-append : (s x : List ℕ) → split (s ++ x) ≡ (messages s ++ messages (rest s ++ x), rest (rest s ++ x))
unfolding split
split-append s x = further front front-shorter front-longer (length s) s x (omega arith)

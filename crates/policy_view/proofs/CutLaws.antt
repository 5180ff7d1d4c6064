-- How a stream is cut into pieces changes nothing.
use Rattle.std.proofs.Common.{ℕ, zero, suc, ◌≡◌, ◌+◌, ◌-◌, ◌<◌, ◌≤◌, Bool, true, false, cond, List, [], ◌∷◌, ◌++◌, length, take, nat_le, Option, Some, None, refl, ap, ◌∙◌, sym, arith, append_assoc, append-nil, length-append, inl, inr}
use Rattle.std.specs.Prelude.{◌⊎◌, nat_lt, min}
use Rattle.std.proofs.lemmas.List.{length-take}
use Rattle.std.proofs.lemmas.Bool.{ltb-true, ltb-false, lt-ltb}
use Rattle.std.proofs.lemmas.Bool.Decides.{nat_tests}
use Rattle.policy_args.specs.Policy.{Policy}
use Rattle.policy_view.specs.Sent.{Past}
use Rattle.policy_view.specs.Laws.{GivesTheSame}
use Rattle.policy_view.specs.Past.{Item, Ended, History, past, due}
use Rattle.policy_view.specs.History.{Event, Bytes, Finished, Stopped, longest_stream, whole_stream, stream, fault as fault_in, malformed, found, raw, raw_in, content, raw_item, taken_of, new_in, fault_end, brought, end_if, is_over, finished, arrived, end_of, placed, followed_by, followed_unless, followed_by_all, history, most_sent}
use Rattle.policy_view.specs.declared.Fault.{Fault}
use Rattle.policy_view.specs.declared.Mode.{Mode}
use Rattle.policy_view.specs.declared.End.{End}
use Rattle.policy_view.specs.declared.End.TheVariants.{SerialsSpent}
use Rattle.policy_view.specs.declared.Side.{Side}
use Rattle.policy_view.specs.declared.Side.TheVariants.{Client, Bus}
use Rattle.policy_view.proofs.PastLaws.{ended_all}
use Rattle.policy_view.proofs.Alike.{all_like, raw_pieces, same_gives, then_gives}
use Rattle.policy_view.proofs.Streams.{Grown, grows, stays, stream_more, bus_stream, client_stream, found_by, raw_by, fault_by}

-- ---- items one after the other

pub all_append : (policy : Policy) (items : History) (xs ys : List Item) → followed_by_all policy items (xs ++ ys) ≡ followed_by_all policy (followed_by_all policy items xs) ys
unfolding followed_by_all
all_append policy items [] ys = refl
all_append policy items (x ∷ xs) ys = all_append policy (followed_by policy items x) xs ys

-- a history that has an End
abbrev HasEnd : History → Type 0
HasEnd items = (end : End) × (end_of items ≡ Some end)

end_placed : (policy : Policy) (before : Past) (end : End) (items : History) → HasEnd (placed policy before (Ended end) ∷ items)
unfolding placed
end_placed policy before end items = by (nat_le (length before.told.sent + length (due policy before (Ended end))) most_sent)
  where
    by : (b : Bool) → HasEnd (cond b (Ended end) (Ended SerialsSpent) ∷ items)
    by true = (end, refl)
    by false = (SerialsSpent, refl)

pub end_follows : (policy : Policy) (items : History) (end : End) → HasEnd (followed_by policy items (Ended end))
unfolding followed_by
end_follows policy items end = by (end_of items) refl
  where
    by : (o : Option End) → end_of items ≡ o → HasEnd (followed_unless o policy items (Ended end))
    by None e = end_placed policy (past policy items) end items
    by (Some x) e = (x, e)

-- after an End nothing has an effect
end_last : (policy : Policy) (items : History) (xs ys : List Item) (end : End) → followed_by_all policy items (xs ++ Ended end ∷ ys) ≡ followed_by_all policy items (xs ++ Ended end ∷ [])
unfolding followed_by_all
end_last policy items xs ys end =
    let there = end_follows policy (followed_by_all policy items xs) end in
    all_append policy items xs (Ended end ∷ ys)
    ∙ ended_all policy (followed_by policy (followed_by_all policy items xs) (Ended end)) ys there.0 there.1
    ∙ sym (all_append policy items xs (Ended end ∷ []))

end_stays : (policy : Policy) (items : History) (xs ys zs : List Item) (end : End) → followed_by_all policy (followed_by_all policy items (xs ++ Ended end ∷ ys)) zs ≡ followed_by_all policy items (xs ++ Ended end ∷ [])
end_stays policy items xs ys zs end =
    sym (all_append policy items (xs ++ Ended end ∷ ys) zs)
    ∙ ap (followed_by_all policy items) (append_assoc xs (Ended end ∷ ys) zs)
    ∙ end_last policy items xs (ys ++ zs) end

-- ---- a piece in two

pub new_last : {A : Type 0} (xs ys : List A) → new_in xs (xs ++ ys) ≡ ys
new_last [] ys = refl
new_last (x ∷ xs) ys = new_last xs ys

new_twice : {A : Type 0} (xs ys zs : List A) → new_in xs ((xs ++ ys) ++ zs) ≡ new_in xs (xs ++ ys) ++ new_in (xs ++ ys) ((xs ++ ys) ++ zs)
new_twice xs ys zs = ap (new_in xs) (append_assoc xs ys zs) ∙ new_last xs (ys ++ zs) ∙ ap (λ (w : List _). w ++ zs) (sym (new_last xs ys)) ∙ ap (λ (w : List _). new_in xs (xs ++ ys) ++ w) (sym (new_last (xs ++ ys) zs))

take_all : (n : ℕ) (xs : List ℕ) → length xs ≤ n → take n xs ≡ xs
take_all zero [] h = refl
take_all (suc n) [] h = refl
take_all zero (x ∷ xs) h = absurd (omega (arith, h))
take_all (suc n) (x ∷ xs) h = ap (λ (t : List ℕ). x ∷ t) (take_all n xs (omega (arith, h)))

take_none : (n : ℕ) (xs : List ℕ) → n ≡ 0 → take n xs ≡ []
take_none zero xs e = refl
take_none (suc n) xs e = absurd (omega (arith, e))

-- ---- equal streams

abbrev SameStreams : List Event → List Event → Type 0
SameStreams one two = (side : Side) → whole_stream side one ≡ whole_stream side two

stream_same : (side : Side) (one two : List Event) → SameStreams one two → stream side one ≡ stream side two
unfolding stream
stream_same side one two same = ap (take longest_stream) (same side)

found_same : (mode : Mode) (side : Side) (one two : List Event) → SameStreams one two → found mode side one ≡ found mode side two
found_same mode side one two same = found_by mode side one two (stream_same Client one two same) (stream_same Bus one two same)

raw_same : (mode : Mode) (side : Side) (one two : List Event) → SameStreams one two → raw mode side one ≡ raw mode side two
raw_same mode side one two same = raw_by mode side one two (stream_same Client one two same) (stream_same Bus one two same)

fault_same : (mode : Mode) (side : Side) (one two : List Event) → SameStreams one two → fault_in mode side one ≡ fault_in mode side two
fault_same mode side one two same = fault_by mode side one two (stream_same Client one two same) (stream_same Bus one two same)

-- a second piece adds nothing to its side's stream
record Unchanged (mode : Mode) (side : Side) (one two : List Event) : Type 0 where
  found_is : found mode side two ≡ found mode side one
  raw_is : raw mode side two ≡ raw mode side one
  fault_is : fault_in mode side two ≡ fault_in mode side one

own_same : (mode : Mode) (side : Side) (events : List Event) (piece : List ℕ) → stream side (Bytes side piece ∷ events) ≡ stream side events → Unchanged mode side events (Bytes side piece ∷ events)
own_same mode Client events piece e =
    let other = bus_stream events piece in
    record {
      found_is = found_by mode Client (Bytes Client piece ∷ events) events e other;
      raw_is = raw_by mode Client (Bytes Client piece ∷ events) events e other;
      fault_is = fault_by mode Client (Bytes Client piece ∷ events) events e other;
    }
own_same mode Bus events piece e =
    let other = client_stream events piece in
    record {
      found_is = found_by mode Bus (Bytes Bus piece ∷ events) events other e;
      raw_is = raw_by mode Bus (Bytes Bus piece ∷ events) events other e;
      fault_is = fault_by mode Bus (Bytes Bus piece ∷ events) events other e;
    }

cut_streams : (side : Side) (events : List Event) (first second : List ℕ) → SameStreams (Bytes side second ∷ Bytes side first ∷ events) (Bytes side (first ++ second) ∷ events)
cut_streams Client events first second Client = append_assoc (whole_stream Client events) first second
cut_streams Client events first second Bus = refl
cut_streams Bus events first second Client = refl
cut_streams Bus events first second Bus = append_assoc (whole_stream Bus events) first second

streams_same : (one two : List Event) (event : Event) → SameStreams one two → SameStreams (event ∷ one) (event ∷ two)
streams_same one two (Bytes Client piece) same Client = ap (λ (w : List ℕ). w ++ piece) (same Client)
streams_same one two (Bytes Client piece) same Bus = same Bus
streams_same one two (Bytes Bus piece) same Client = same Client
streams_same one two (Bytes Bus piece) same Bus = ap (λ (w : List ℕ). w ++ piece) (same Bus)
streams_same one two (Finished side) same Client = same Client
streams_same one two (Finished side) same Bus = same Bus
streams_same one two (Stopped end) same Client = same Client
streams_same one two (Stopped end) same Bus = same Bus

-- ---- what follows a history, in two parts

pub parts : (policy : Policy) (h : History) (xs ys zs : List Item) → followed_by_all policy h (xs ++ (ys ++ zs)) ≡ followed_by_all policy (followed_by_all policy (followed_by_all policy h xs) ys) zs
parts policy h xs ys zs = all_append policy h xs (ys ++ zs) ∙ all_append policy (followed_by_all policy h xs) ys zs

none_followed : (policy : Policy) (h : History) → followed_by_all policy h [] ≡ h
unfolding followed_by_all
none_followed policy h = refl

-- nothing follows an End
ended_then : (policy : Policy) (h : History) (end : End) (one other after : List Item) → followed_by_all policy h (Ended end ∷ one) ≡ followed_by_all policy (followed_by_all policy h (Ended end ∷ other)) after
ended_then policy h end one other after = end_last policy h [] one end ∙ sym (end_stays policy h [] other after end)

-- lines and messages, raw bytes, and an End
abbrev three : Side → List Item → List ℕ → Option Fault → Bool → List Item
three side items bytes f over = items ++ (raw_item side bytes ++ (fault_end side f ++ end_if over (finished side)))

pub brought_three : (mode : Mode) (side : Side) (events : List Event) (piece : List ℕ) (items : List Item) (bytes : List ℕ)
    → found mode side (Bytes side piece ∷ events) ≡ found mode side events ++ items → raw mode side (Bytes side piece ∷ events) ≡ raw mode side events ++ bytes
    → brought mode side events piece ≡ three side items bytes (fault_in mode side (Bytes side piece ∷ events)) (is_over side events piece)
brought_three mode side events piece items bytes found_is raw_is =
    rw (found_is, raw_is, new_last (found mode side events) items, new_last (raw mode side events) bytes)
    (append_assoc (items ++ raw_item side bytes) (fault_end side (fault_in mode side (Bytes side piece ∷ events))) (end_if (is_over side events piece) (finished side))
    ∙ append_assoc items (raw_item side bytes) (fault_end side (fault_in mode side (Bytes side piece ∷ events)) ++ end_if (is_over side events piece) (finished side)))

-- ---- a piece in two pieces

-- a likeness of histories that holds for equal ones and is kept if the same items follow both
record IsLikeness (policy : Policy) (Like : History → History → Type 0) : Type 0 where
  same : (h k : History) → h ≡ k → Like h k
  chained : (a b c : History) → Like a b → Like b c → Like a c
  followed : (items : List Item) (h k : History) → Like h k → Like (followed_by_all policy h items) (followed_by_all policy k items)

-- bytes in two pieces are like those in one
abbrev InPieces : Policy → (History → History → Type 0) → Side → List ℕ → List ℕ → Type 0
InPieces policy Like side x y = (h : History) → Like (followed_by_all policy h (raw_item side (x ++ y))) (followed_by_all policy (followed_by_all policy h (raw_item side x)) (raw_item side y))

module _ (policy : Policy) (Like : History → History → Type 0) (like : IsLikeness policy Like) where
  -- over the parts of what arrives: the items r and s, the bytes x and y, the faults f and g, and whether the stream is
  -- over its limit with the first piece (o), the second (p), both in one (q)
  cut_three : (h : History) (r s : List Item) (side : Side) (x y : List ℕ) (f g : Option Fault) (o p q : Bool)
      → ((z : Fault) → f ≡ Some z → (s ≡ []) × (y ≡ []) × (g ≡ Some z))
      → (f ≡ None → o ≡ true → (s ≡ []) × (y ≡ []) × (g ≡ None) × (q ≡ true))
      → (o ≡ false → q ≡ p) → (x ≡ []) ⊎ (s ≡ []) → InPieces policy Like side x y
      → Like (followed_by_all policy h (three side (r ++ s) (x ++ y) g q)) (followed_by_all policy (followed_by_all policy h (three side r x f o)) (three side s y g p))
  cut_three h r s side x y (Some z) g o p q k l m n pieces =
      let e = k z refl in
      let start = followed_by_all policy (followed_by_all policy h r) (raw_item side x) in
      like.same _ _ (
      ap (λ (t : List Item). followed_by_all policy h (three side (r ++ t) (x ++ y) g q)) e.0
      ∙ ap (λ (t : List ℕ). followed_by_all policy h (three side (r ++ []) (x ++ t) g q)) e.1
      ∙ ap (λ (t : List Item). followed_by_all policy h (t ++ (raw_item side (x ++ []) ++ (fault_end side g ++ end_if q (finished side))))) (append-nil r)
      ∙ ap (λ (t : List ℕ). followed_by_all policy h (r ++ (raw_item side t ++ (fault_end side g ++ end_if q (finished side))))) (append-nil x)
      ∙ ap (λ (t : Option Fault). followed_by_all policy h (three side r x t q)) e.2
      ∙ parts policy h r (raw_item side x) (Ended (malformed side z) ∷ end_if q (finished side))
      ∙ ended_then policy start (malformed side z) (end_if q (finished side)) (end_if o (finished side)) (three side s y g p)
      ∙ sym (ap (λ (t : History). followed_by_all policy t (three side s y g p)) (parts policy h r (raw_item side x) (Ended (malformed side z) ∷ end_if o (finished side))))
      )
  cut_three h r s side x y None g true p q k l m n pieces =
      let e = l refl refl in
      let start = followed_by_all policy (followed_by_all policy h r) (raw_item side x) in
      like.same _ _ (
      ap (λ (t : List Item). followed_by_all policy h (three side (r ++ t) (x ++ y) g q)) e.0
      ∙ ap (λ (t : List ℕ). followed_by_all policy h (three side (r ++ []) (x ++ t) g q)) e.1
      ∙ ap (λ (t : List Item). followed_by_all policy h (t ++ (raw_item side (x ++ []) ++ (fault_end side g ++ end_if q (finished side))))) (append-nil r)
      ∙ ap (λ (t : List ℕ). followed_by_all policy h (r ++ (raw_item side t ++ (fault_end side g ++ end_if q (finished side))))) (append-nil x)
      ∙ ap (λ (t : Option Fault). followed_by_all policy h (three side r x t q)) e.2
      ∙ ap (λ (t : Bool). followed_by_all policy h (three side r x None t)) e.3
      ∙ parts policy h r (raw_item side x) (Ended (finished side) ∷ [])
      ∙ ended_then policy start (finished side) [] [] (three side s y g p)
      ∙ sym (ap (λ (t : History). followed_by_all policy t (three side s y g p)) (parts policy h r (raw_item side x) (Ended (finished side) ∷ [])))
      )
  cut_three h r s side x y None g false p q k l m n pieces = go n
    where
      last : List Item
      last = fault_end side g ++ end_if p (finished side)

      over : three side (r ++ s) (x ++ y) g q ≡ three side (r ++ s) (x ++ y) g p
      over = ap (three side (r ++ s) (x ++ y) g) (m refl)

      -- the cut one, in its parts
      second : followed_by_all policy (followed_by_all policy h (three side r x None false)) (three side s y g p)
          ≡ followed_by_all policy (followed_by_all policy (followed_by_all policy (followed_by_all policy (followed_by_all policy h r) (raw_item side x)) s) (raw_item side y)) last
      second =
          ap (λ (t : History). followed_by_all policy t (three side s y g p)) (ap (λ (t : List Item). followed_by_all policy h (r ++ t)) (append-nil (raw_item side x)) ∙ all_append policy h r (raw_item side x))
          ∙ parts policy (followed_by_all policy (followed_by_all policy h r) (raw_item side x)) s (raw_item side y) last

      whole : followed_by_all policy h (three side (r ++ s) (x ++ y) g q) ≡ followed_by_all policy (followed_by_all policy (followed_by_all policy (followed_by_all policy h r) s) (raw_item side (x ++ y))) last
      whole = ap (followed_by_all policy h) over ∙ parts policy h (r ++ s) (raw_item side (x ++ y)) last
          ∙ ap (λ (t : History). followed_by_all policy (followed_by_all policy t (raw_item side (x ++ y))) last) (all_append policy h r s)

      go : (x ≡ []) ⊎ (s ≡ []) → Like (followed_by_all policy h (three side (r ++ s) (x ++ y) g q)) (followed_by_all policy (followed_by_all policy h (three side r x None false)) (three side s y g p))
      go (inl e) = like.same _ _ (
          whole
          ∙ ap (λ (t : List ℕ). followed_by_all policy (followed_by_all policy (followed_by_all policy (followed_by_all policy h r) s) (raw_item side (t ++ y))) last) e
          ∙ sym (second ∙ ap (λ (t : List ℕ). followed_by_all policy (followed_by_all policy (followed_by_all policy (followed_by_all policy (followed_by_all policy h r) (raw_item side t)) s) (raw_item side y)) last) e ∙ none_raw)
          )
        where
          none_raw : followed_by_all policy (followed_by_all policy (followed_by_all policy (followed_by_all policy (followed_by_all policy h r) []) s) (raw_item side y)) last
              ≡ followed_by_all policy (followed_by_all policy (followed_by_all policy (followed_by_all policy h r) s) (raw_item side y)) last
          none_raw = ap (λ (t : History). followed_by_all policy (followed_by_all policy (followed_by_all policy t s) (raw_item side y)) last) (none_followed policy (followed_by_all policy h r))
      go (inr e) =
          let start = followed_by_all policy h r in
          like.chained _ _ _ (like.same _ _ (whole ∙ ap (λ (t : List Item). followed_by_all policy (followed_by_all policy (followed_by_all policy start t) (raw_item side (x ++ y))) last) e ∙ ap (λ (t : History). followed_by_all policy (followed_by_all policy t (raw_item side (x ++ y))) last) (none_followed policy start)))
          (like.chained _ _ _ (like.followed last _ _ (pieces start))
          (like.same _ _ (sym (second ∙ ap (λ (t : List Item). followed_by_all policy (followed_by_all policy (followed_by_all policy (followed_by_all policy start (raw_item side x)) t) (raw_item side y)) last) e
          ∙ ap (λ (t : History). followed_by_all policy (followed_by_all policy t (raw_item side y)) last) (none_followed policy (followed_by_all policy start (raw_item side x)))))))

nothing_left : (xs ys : List ℕ) → xs ++ ys ≡ [] → ys ≡ []
nothing_left [] ys e = e
nothing_left (x ∷ xs) ys e = absurd cc

-- nothing was added to a list that is unchanged
none_added : {A : Type 0} (xs ys : List A) → xs ++ ys ≡ xs → ys ≡ []
none_added xs ys e = sym (new_last xs ys) ∙ ap (new_in xs) e ∙ ap (new_in xs) (sym (append-nil xs)) ∙ new_last xs []

ap_or : {A B C : Type 0} → (A → C) → A ⊎ B → C ⊎ B
ap_or f (inl a) = inl (f a)
ap_or f (inr b) = inr b

module _ (policy : Policy) (mode : Mode) (side : Side) (events : List Event) (first second : List ℕ) where
  abbrev once : List Event
  once = Bytes side first ∷ events

  abbrev twice : List Event
  twice = Bytes side second ∷ Bytes side first ∷ events

  abbrev joined : List Event
  joined = Bytes side (first ++ second) ∷ events

  short : (es : List Event) → length (stream side es) ≤ longest_stream
  unfolding stream
  short es = let h = length-take longest_stream (whole_stream side es) in fits longest_stream (length (whole_stream side es)) h
    where
      fits : (n k : ℕ) → length (take longest_stream (whole_stream side es)) ≡ min n k → length (take longest_stream (whole_stream side es)) ≤ n
      fits n k h = grind (arith, nat_tests, h)

  -- ---- the first piece reaches the stream's limit

  over_len : nat_lt longest_stream (length (stream side events) + length first) ≡ true → length (stream side once) ≡ longest_stream
  unfolding taken_of
  over_len e =
      let more = ap length (stream_more side events first) ∙ length-append (stream side events) (taken_of side events first) in
      let h = length-take (longest_stream - length (stream side events)) first in
      let long = ltb-true longest_stream (length (stream side events) + length first) e in
      let few = short events in
      full longest_stream (length (stream side events)) (length first) (length (taken_of side events first)) (length (stream side once)) few long h more
    where
      full : (n s f t r : ℕ) → s ≤ n → n < s + f → t ≡ min (n - s) f → r ≡ s + t → r ≡ n
      full n s f t r few long h more = grind (arith, nat_tests, few, long, h, more)

  over_is : is_over side events first ≡ nat_lt longest_stream (length (stream side events) + length first)
  unfolding is_over
  over_is = refl

  full_same : is_over side events first ≡ true → stream side twice ≡ stream side once
  unfolding taken_of
  full_same e =
      let len = over_len (sym over_is ∙ e) in
      let none : taken_of side once second ≡ [] = take_none (longest_stream - length (stream side once)) second (let l = len in omega (arith, l)) in
      stream_more side once second ∙ ap (λ (xs : List ℕ). stream side once ++ xs) none ∙ append-nil (stream side once)

  over_both : is_over side events first ≡ true → is_over side events (first ++ second) ≡ true
  unfolding is_over
  over_both e =
      let l = length-append first second in
      let long = ltb-true longest_stream (length (stream side events) + length first) e in
      lt-ltb longest_stream (length (stream side events) + length (first ++ second)) (omega (arith, l, long))

  -- ---- and if it doesn't

  room_len : nat_lt longest_stream (length (stream side events) + length first) ≡ false → length (stream side once) ≡ length (stream side events) + length first
  unfolding taken_of
  room_len e =
      let few : length first ≤ longest_stream - length (stream side events) = let f = ltb-false longest_stream (length (stream side events) + length first) e in omega (arith, f) in
      ap length (stream_more side events first) ∙ length-append (stream side events) (taken_of side events first) ∙ ap (λ (xs : List ℕ). length (stream side events) + length xs) (take_all (longest_stream - length (stream side events)) first few)

  same_over : nat_lt longest_stream (length (stream side events) + length first) ≡ false → is_over side once second ≡ is_over side events (first ++ second)
  unfolding is_over
  same_over e =
      let l = length-append first second in
      let r = room_len e in
      let same : length (stream side once) + length second ≡ length (stream side events) + length (first ++ second) = omega (arith, l, r) in
      ap (nat_lt longest_stream) same

  same_streams : SameStreams twice joined
  same_streams = cut_streams side events first second

  abbrev grown_first : Grown mode side events first
  grown_first = grows mode side events first

  abbrev grown_second : Grown mode side (Bytes side first ∷ events) second
  grown_second = grows mode side (Bytes side first ∷ events) second

  found_both : found mode side joined ≡ found mode side events ++ ((grows mode side events first).items ++ (grows mode side (Bytes side first ∷ events) second).items)
  found_both =
      sym (found_same mode side twice joined same_streams)
      ∙ grown_second.found_is
      ∙ ap (λ (t : List Item). t ++ grown_second.items) grown_first.found_is
      ∙ append_assoc (found mode side events) grown_first.items grown_second.items

  raw_both : raw mode side joined ≡ raw mode side events ++ ((grows mode side events first).bytes ++ (grows mode side (Bytes side first ∷ events) second).bytes)
  raw_both =
      sym (raw_same mode side twice joined same_streams)
      ∙ grown_second.raw_is
      ∙ ap (λ (t : List ℕ). t ++ grown_second.bytes) grown_first.raw_is
      ∙ append_assoc (raw mode side events) grown_first.bytes grown_second.bytes

  joined_three : brought mode side events (first ++ second) ≡ three side ((grows mode side events first).items ++ (grows mode side (Bytes side first ∷ events) second).items) ((grows mode side events first).bytes ++ (grows mode side (Bytes side first ∷ events) second).bytes) (fault_in mode side twice) (is_over side events (first ++ second))
  joined_three =
      brought_three mode side events (first ++ second) (grown_first.items ++ grown_second.items) (grown_first.bytes ++ grown_second.bytes) found_both raw_both
      ∙ ap (λ (o : Option Fault). three side (grown_first.items ++ grown_second.items) (grown_first.bytes ++ grown_second.bytes) o (is_over side events (first ++ second))) (sym (fault_same mode side twice joined same_streams))

  after_fault : (f : Fault) → fault_in mode side once ≡ Some f → ((grows mode side once second).items ≡ []) × ((grows mode side once second).bytes ≡ []) × (fault_in mode side twice ≡ Some f)
  after_fault f e =
      let s = stays mode side once second f e in
      (none_added (found mode side once) grown_second.items (sym grown_second.found_is ∙ s.found_is), none_added (raw mode side once) grown_second.bytes (sym grown_second.raw_is ∙ s.raw_is), s.fault_is)

  after_full : fault_in mode side once ≡ None → is_over side events first ≡ true
      → ((grows mode side once second).items ≡ []) × ((grows mode side once second).bytes ≡ []) × (fault_in mode side twice ≡ None) × (is_over side events (first ++ second) ≡ true)
  after_full e o =
      let u = own_same mode side once second (full_same o) in
      (none_added (found mode side once) grown_second.items (sym grown_second.found_is ∙ u.found_is), none_added (raw mode side once) grown_second.bytes (sym grown_second.raw_is ∙ u.raw_is), u.fault_is ∙ e, over_both o)

  in_room : is_over side events first ≡ false → is_over side events (first ++ second) ≡ is_over side once second
  in_room o = sym (same_over (sym over_is ∙ o))

  in_order : ((grows mode side events first).bytes ≡ []) ⊎ ((grows mode side once second).items ≡ [])
  in_order = ap_or (λ e. nothing_left (raw mode side events) grown_first.bytes (sym grown_first.raw_is ∙ e)) grown_second.in_order

  module _ (Like : History → History → Type 0) (like : IsLikeness policy Like) (pieces : InPieces policy Like side (grows mode side events first).bytes (grows mode side (Bytes side first ∷ events) second).bytes) where
    cut_here : Like (history policy mode (Bytes side (first ++ second) ∷ events)) (history policy mode (Bytes side second ∷ Bytes side first ∷ events))
    unfolding history arrived
    cut_here =
        let h = history policy mode events in
        like.chained _ _ _ (like.same _ _ (ap (followed_by_all policy h) joined_three))
        (like.chained _ _ _ (cut_three policy Like like h grown_first.items grown_second.items side grown_first.bytes grown_second.bytes (fault_in mode side once) (fault_in mode side twice) (is_over side events first) (is_over side once second) (is_over side events (first ++ second)) after_fault after_full in_room in_order pieces)
        (like.same _ _ (sym (
        ap (λ (xs : List Item). followed_by_all policy (followed_by_all policy h xs) (brought mode side once second)) (brought_three mode side events first grown_first.items grown_first.bytes grown_first.found_is grown_first.raw_is)
        ∙ ap (followed_by_all policy (followed_by_all policy h (three side grown_first.items grown_first.bytes (fault_in mode side once) (is_over side events first)))) (brought_three mode side once second grown_second.items grown_second.bytes grown_second.found_is grown_second.raw_is)
        ))))

-- ---- and what comes later

arrived_same : (mode : Mode) (one two : List Event) (event : Event) → SameStreams one two → arrived mode one event ≡ arrived mode two event
unfolding arrived is_over
arrived_same mode one two (Bytes side piece) same =
    let more = streams_same one two (Bytes side piece) same in
    rw (
      stream_same side one two same,
      found_same mode side one two same,
      found_same mode side (Bytes side piece ∷ one) (Bytes side piece ∷ two) more,
      raw_same mode side one two same,
      raw_same mode side (Bytes side piece ∷ one) (Bytes side piece ∷ two) more,
      fault_same mode side (Bytes side piece ∷ one) (Bytes side piece ∷ two) more,
    )
    refl
arrived_same mode one two (Finished side) same = refl
arrived_same mode one two (Stopped end) same = refl

later_like : (policy : Policy) (mode : Mode) (Like : History → History → Type 0) → IsLikeness policy Like → (later one two : List Event) → SameStreams one two → Like (history policy mode one) (history policy mode two)
    → Like (history policy mode (later ++ one)) (history policy mode (later ++ two)) × SameStreams (later ++ one) (later ++ two)
unfolding history
later_like policy mode Like like [] one two same e = (e, same)
later_like policy mode Like like (event ∷ later) one two same e =
    let before = later_like policy mode Like like later one two same e in (
      like.chained _ _ _ (like.followed (arrived mode (later ++ one) event) _ _ before.0)
          (like.same _ _ (ap (followed_by_all policy (history policy mode (later ++ two))) (arrived_same mode (later ++ one) (later ++ two) event before.1))),
      streams_same (later ++ one) (later ++ two) event before.1,
    )

-- ---- the same history

the_same : (policy : Policy) → IsLikeness policy (λ (h k : History). h ≡ k)
the_same policy = record { same = λ h k e. e; chained = λ a b c e f. e ∙ f; followed = λ items h k e. ap (λ (t : History). followed_by_all policy t items) e }

-- with a filter there are no raw bytes
none_raw : (mode : Mode) (side : Side) (events : List Event) → mode.filter ≡ true → raw mode side events ≡ []
unfolding raw
none_raw mode side events e = ap (λ (b : Bool). raw_in b (content mode side events)) e

filtered_pieces : (policy : Policy) (mode : Mode) (side : Side) (events : List Event) (piece y : List ℕ) → mode.filter ≡ true → InPieces policy (λ (h k : History). h ≡ k) side (grows mode side events piece).bytes y
filtered_pieces policy mode side events piece y filters = λ h.
    let x = (grows mode side events piece).bytes in
    let none : x ≡ [] = nothing_left (raw mode side events) x (sym (grows mode side events piece).raw_is ∙ none_raw mode side (Bytes side piece ∷ events) filters) in
    ap (λ (t : List ℕ). followed_by_all policy h (raw_item side (t ++ y))) none
    ∙ ap (λ (t : History). followed_by_all policy t (raw_item side y)) (sym (none_followed policy h))
    ∙ ap (λ (t : List ℕ). followed_by_all policy (followed_by_all policy h (raw_item side t)) (raw_item side y)) (sym none)

pub any_cut : (policy : Policy) (mode : Mode) (later events : List Event) (side : Side) (first second : List ℕ) → mode.filter ≡ true
    → history policy mode (later ++ Bytes side second ∷ Bytes side first ∷ events) ≡ history policy mode (later ++ Bytes side (first ++ second) ∷ events)
any_cut policy mode later events side first second e =
    (later_like policy mode (λ (h k : History). h ≡ k) (the_same policy) later (Bytes side second ∷ Bytes side first ∷ events) (Bytes side (first ++ second) ∷ events) (cut_streams side events first second)
    (sym (cut_here policy mode side events first second (λ (h k : History). h ≡ k) (the_same policy) (filtered_pieces policy mode side events first (grows mode side (Bytes side first ∷ events) second).bytes e)))).0

-- ---- and with a filter or without, what the history gives

alike : (policy : Policy) → IsLikeness policy (GivesTheSame policy)
alike policy = record { same = same_gives policy; chained = then_gives policy; followed = all_like policy }

pub any_cut_gives : (policy : Policy) (mode : Mode) (later events : List Event) (side : Side) (first second : List ℕ)
    → GivesTheSame policy (history policy mode (later ++ Bytes side (first ++ second) ∷ events)) (history policy mode (later ++ Bytes side second ∷ Bytes side first ∷ events))
any_cut_gives policy mode later events side first second =
    (later_like policy mode (GivesTheSame policy) (alike policy) later (Bytes side (first ++ second) ∷ events) (Bytes side second ∷ Bytes side first ∷ events) (λ s. sym (cut_streams side events first second s))
    (cut_here policy mode side events first second (GivesTheSame policy) (alike policy) (λ h. raw_pieces policy h side (grows mode side events first).bytes (grows mode side (Bytes side first ∷ events) second).bytes))).0

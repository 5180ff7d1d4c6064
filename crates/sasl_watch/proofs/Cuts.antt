-- The first line of some bytes, from its plain bytes and the one or two that follow them.
use Rattle.std.proofs.Common.{◌≡◌, ◌≢◌, ℕ, zero, suc, ◌+◌, ◌-◌, ◌≤◌, ◌<◌, Bool, true, false, cond, List, [], ◌∷◌, ◌++◌, length, take, drop, slice_index, Option, Some, None, refl, sym, ap, ap₂, ◌∙◌, append_assoc, append-nil, arith, lit<}
use Rattle.std.specs.Prelude.{not, ◌&&◌, ◌||◌, ◌==◌, nat_eq}
use lib.Pointwise.{pointwise}
use Rattle.std.proofs.lemmas.List.{length-append, length-take-le, take-append-drop, get_or-take, drop_at, drop_all, take_more, drop_more}
use Rattle.std.proofs.lemmas.Bool.{eq-eqb}
use Rattle.std.proofs.lemmas.Bool.Decides.{nat_tests}
use Rattle.byte_lists.proofs.Options.{some}
use Rattle.sasl_watch.specs.declared.LineKind.{LineKind}
use Rattle.sasl_watch.specs.declared.LineKind.TheVariants.{LineTooLong, BadByte, Agreed}
use Rattle.sasl_watch.specs.declared.front.Front.TheVariants.{Partial}
use Rattle.sasl_watch.specs.Lines.{Cut, with_line, after_byte, at_byte, cut_from, byte_fault, is_behind_cr}
use Rattle.sasl_watch.specs.Fronts.{is_plain, PlainFront, faulty, IsWhole, IsFaulty, IsFront}

-- ---- one byte, by its tests

abbrev byte_by : Bool → Bool → Bool → Bool → Bool → Bool → Option LineKind
byte_by last cr lf agreed plain ret =
    cond (last && not (cr && lf)) (Some LineTooLong) (cond cr (cond (not lf) (Some BadByte) (cond agreed (Some Agreed) None)) (cond (plain || ret) None (Some BadByte)))

module _ (refused : List ℕ → Bool) (line : List ℕ) (b : ℕ) where
  byte-is : (last cr lf plain ret : Bool) → (length line == 16383) ≡ last → is_behind_cr line ≡ cr → (b == 10) ≡ lf → is_plain b ≡ plain → (b == 13) ≡ ret
      → byte_fault refused line b ≡ byte_by last cr lf (refused (line ++ b ∷ [])) plain ret
  byte-is last cr lf plain ret e1 e2 e3 e4 e5 =
      ap (λ (x : Bool). byte_by x (is_behind_cr line) (b == 10) (refused (line ++ b ∷ [])) (is_plain b) (b == 13)) e1
      ∙ ap (λ (x : Bool). byte_by last x (b == 10) (refused (line ++ b ∷ [])) (is_plain b) (b == 13)) e2
      ∙ ap (λ (x : Bool). byte_by last cr x (refused (line ++ b ∷ [])) (is_plain b) (b == 13)) e3
      ∙ ap (λ (x : Bool). byte_by last cr lf (refused (line ++ b ∷ [])) x (b == 13)) e4
      ∙ ap (λ (x : Bool). byte_by last cr lf (refused (line ++ b ∷ [])) plain x) e5

not-eq : (a b : ℕ) → a ≢ b → (a == b) ≡ false
not-eq a b ne = grind (arith, nat_tests)

plain-not : (b c : ℕ) → is_plain b ≡ true → c < 32 → (b == c) ≡ false
plain-not b c p l = grind (arith, nat_tests)

-- ---- after which bytes there is a CR

last-byte : (line : List ℕ) (b : ℕ) → drop (length (line ++ b ∷ []) - 1) (line ++ b ∷ []) ≡ b ∷ []
last-byte line b = drop_at line (b ∷ []) (length (line ++ b ∷ []) - 1) (omega (arith, length-append line (b ∷ [])))

behind-byte : (line : List ℕ) (b : ℕ) → is_behind_cr (line ++ b ∷ []) ≡ is_behind_cr (b ∷ [])
behind-byte line b = ap (pointwise nat_eq (13 ∷ [])) (last-byte line b)

behind-plain : (line : List ℕ) (b : ℕ) → is_plain b ≡ true → is_behind_cr (line ++ b ∷ []) ≡ false
behind-plain line b p = behind-byte line b ∙ grind (arith, nat_tests)

-- ---- plain bytes at the start

abbrev AllPlain : List ℕ → Type 0
AllPlain [] = Unit {0}
AllPlain (b ∷ p) = (is_plain b ≡ true) × AllPlain p

all_plain : (p : List ℕ) → ((k : ℕ) → k < length p → is_plain (slice_index p k) ≡ true) → AllPlain p
all_plain [] h = tt
all_plain (b ∷ p) h = (h 0 (omega arith), all_plain p (λ k l. h (suc k) (omega (arith, l))))

cut-plain : (refused : List ℕ → Bool) (p s : List ℕ) (place : ℕ) (line : List ℕ) → AllPlain p → is_behind_cr line ≡ false → length line + length p ≤ 16383
    → cut_from refused place line (p ++ s) ≡ cut_from refused (place + length p) (line ++ p) s
cut-plain refused [] s place line a h l = ap₂ (λ (n : ℕ) (t : List ℕ). cut_from refused n t s) (omega arith) (sym (append-nil line))
cut-plain refused (b ∷ p) s place line a h l =
    ap (λ (f : Option LineKind). at_byte f place b line F) (byte-is refused line b false false false true false (not-eq (length line) 16383 (omega (arith, l))) h (plain-not b 10 a.0 (lit< tt)) a.0 (plain-not b 13 a.0 (lit< tt)))
    ∙ ap (λ (e : Bool). after_byte e (line ++ b ∷ []) F) (plain-not b 10 a.0 (lit< tt))
    ∙ cut-plain refused p s (place + 1) (line ++ b ∷ []) a.1 (behind-plain line b a.0) (omega (arith, length-append line (b ∷ []), l))
    ∙ ap₂ (λ (n : ℕ) (t : List ℕ). cut_from refused n t s) (omega arith) (append_assoc line (b ∷ []) p)
  where
    F : List ℕ → Cut
    F next = cut_from refused (place + 1) next (p ++ s)

-- ---- the start, by its number of plain bytes

module _ (left : List ℕ) (n : ℕ) (front : PlainFront n left) where
  plain_part : AllPlain (take n left)
  plain_part = all_plain (take n left) (λ k l. let lt : k < n = omega (arith, l, length-take-le n left front.plain.within) in ap is_plain (get_or-take n left k 0 lt) ∙ front.plain.each k lt)

  plain_length : length (take n left) ≡ n
  plain_length = length-take-le n left front.plain.within

  -- there is no CR before the next byte
  no_ret : is_behind_cr (take n left) ≡ false
  no_ret = go n front
    where
      go : (m : ℕ) → PlainFront m left → is_behind_cr (take m left) ≡ false
      go zero f = refl
      go (suc m) f =
          let lt : m < suc m = omega arith in
          let in_left : m < length left = omega (arith, f.plain.within) in
          let on : suc m ≡ m + 1 = omega arith in
          ap (λ (k : ℕ). is_behind_cr (take k left)) on
          ∙ ap (λ (t : List ℕ). is_behind_cr t) (take_more left m 0 in_left)
          ∙ behind-plain (take m left) (slice_index left m) (f.plain.each m lt)

  module _ (refused : List ℕ → Bool) (place : ℕ) where
    cut-front : cut_from refused place [] left ≡ cut_from refused (place + n) (take n left) (drop n left)
    cut-front =
        ap (cut_from refused place []) (sym (take-append-drop n left))
        ∙ cut-plain refused (take n left) (drop n left) place [] plain_part refl (omega (arith, plain_length, front.plain.few))
        ∙ ap (λ (k : ℕ). cut_from refused (place + k) (take n left) (drop n left)) plain_length

    -- one byte more
    cut-byte : n < length left → cut_from refused place [] left
        ≡ at_byte (byte_fault refused (take n left) (slice_index left n)) (place + n) (slice_index left n) (take n left) (λ next. cut_from refused (place + n + 1) next (drop (n + 1) left))
    cut-byte l = cut-front ∙ ap (cut_from refused (place + n) (take n left)) (drop_more left n 0 l)

    -- after a CR
    cut-ret : n < length left → n < 16383 → slice_index left n ≡ 13 → cut_from refused place [] left ≡ cut_from refused (place + (n + 1)) (take (n + 1) left) (drop (n + 1) left)
    cut-ret l few is =
        cut-byte l
        ∙ ap (λ (b : ℕ). at_byte (byte_fault refused (take n left) b) (place + n) b (take n left) F) is
        ∙ ap (λ (f : Option LineKind). at_byte f (place + n) 13 (take n left) F) (byte-is refused (take n left) 13 false false false false true (not-eq (length (take n left)) 16383 (omega (arith, plain_length, few))) no_ret refl refl refl)
        ∙ ap₂ (λ (k : ℕ) (t : List ℕ). cut_from refused k t (drop (n + 1) left)) (omega arith) (ap (λ (b : ℕ). take n left ++ b ∷ []) (sym is) ∙ sym (take_more left n 0 l))
      where
        F : List ℕ → Cut
        F next = cut_from refused (place + n + 1) next (drop (n + 1) left)

  pub nothing_behind : n ≡ length left → IsFront left Partial
  nothing_behind e refused place = cut-front refused place ∙ ap (cut_from refused (place + n) (take n left)) (drop_all n left (omega (arith, e)))

  pub last_byte : n < length left → n ≡ 16383 → IsFaulty LineTooLong n left
  last_byte l e = record {
    within = l;
    cut = λ refused place. cut-byte refused place l ∙ ap (λ (f : Option LineKind). at_byte f (place + n) (slice_index left n) (take n left) (λ next. cut_from refused (place + n + 1) next (drop (n + 1) left)))
        (byte-is refused (take n left) (slice_index left n) true false (slice_index left n == 10) (is_plain (slice_index left n)) (slice_index left n == 13) (eq-eqb (length (take n left)) 16383 (plain_length ∙ e)) no_ret refl refl refl);
  }

  pub bad_byte : n < length left → n ≢ 16383 → slice_index left n ≢ 13 → IsFaulty BadByte n left
  bad_byte l few ne = record {
    within = l;
    cut = λ refused place. cut-byte refused place l ∙ ap (λ (f : Option LineKind). at_byte f (place + n) (slice_index left n) (take n left) (λ next. cut_from refused (place + n + 1) next (drop (n + 1) left)))
        (byte-is refused (take n left) (slice_index left n) false false (slice_index left n == 10) false false (not-eq (length (take n left)) 16383 (λ e. few (sym plain_length ∙ e))) no_ret refl (front.ends (omega (arith, few, front.plain.few)) l) (not-eq (slice_index left n) 13 ne));
  }

  module _ (l : n < length left) (few : n ≢ 16383) (ret : slice_index left n ≡ 13) where
    below : n < 16383
    below = omega (arith, few, front.plain.few)

    pub nothing_behind_ret : n + 1 ≡ length left → IsFront left Partial
    nothing_behind_ret e refused place = cut-ret refused place l below ret ∙ ap (cut_from refused (place + (n + 1)) (take (n + 1) left)) (drop_all (n + 1) left (omega (arith, e)))

    is_behind : is_behind_cr (take (n + 1) left) ≡ true
    is_behind = ap (λ (t : List ℕ). is_behind_cr t) (take_more left n 0 l) ∙ ap (λ (b : ℕ). is_behind_cr (take n left ++ b ∷ [])) ret ∙ behind-byte (take n left) 13

    ret_length : length (take (n + 1) left) ≡ n + 1
    ret_length = length-take-le (n + 1) left (omega (arith, l))

    cut-behind : (refused : List ℕ → Bool) (place : ℕ) → n + 1 < length left → cut_from refused place [] left
        ≡ at_byte (byte_fault refused (take (n + 1) left) (slice_index left (n + 1))) (place + (n + 1)) (slice_index left (n + 1)) (take (n + 1) left) (λ next. cut_from refused (place + (n + 1) + 1) next (drop (n + 1 + 1) left))
    cut-behind refused place k = cut-ret refused place l below ret ∙ ap (cut_from refused (place + (n + 1)) (take (n + 1) left)) (drop_more left (n + 1) 0 k)

    behind_ret : n + 1 < length left → slice_index left (n + 1) ≢ 10 → (kind : LineKind) → cond (n + 1 == 16383) LineTooLong BadByte ≡ kind → IsFaulty kind (n + 1) left
    behind_ret k ne kind is = record {
      within = k;
      cut = λ refused place. cut-behind refused place k ∙ ap (λ (f : Option LineKind). at_byte f (place + (n + 1)) (slice_index left (n + 1)) (take (n + 1) left) (λ next. cut_from refused (place + (n + 1) + 1) next (drop (n + 1 + 1) left)))
          (byte-is refused (take (n + 1) left) (slice_index left (n + 1)) (n + 1 == 16383) true false (is_plain (slice_index left (n + 1))) (slice_index left (n + 1) == 13) (ap (λ (k : ℕ). k == 16383) ret_length) is_behind (not-eq (slice_index left (n + 1)) 10 ne) refl refl
          ∙ by_kind (n + 1 == 16383) is (refused (take (n + 1) left ++ slice_index left (n + 1) ∷ [])) (is_plain (slice_index left (n + 1))) (slice_index left (n + 1) == 13));
    }
      where
        by_kind : (last : Bool) → cond last LineTooLong BadByte ≡ kind → (agreed plain ret : Bool) → byte_by last true false agreed plain ret ≡ Some kind
        by_kind true e agreed plain ret = ap (λ (x : LineKind). some x) e
        by_kind false e agreed plain ret = ap (λ (x : LineKind). some x) e

    pub bad_last : n + 1 < length left → slice_index left (n + 1) ≢ 10 → n + 1 ≡ 16383 → IsFaulty LineTooLong (n + 1) left
    bad_last k ne e = behind_ret k ne LineTooLong (ap (λ (x : Bool). cond x LineTooLong BadByte) (eq-eqb (n + 1) 16383 e))

    pub bad_ending : n + 1 < length left → slice_index left (n + 1) ≢ 10 → n + 1 ≢ 16383 → IsFaulty BadByte (n + 1) left
    bad_ending k ne e = behind_ret k ne BadByte (ap (λ (x : Bool). cond x LineTooLong BadByte) (not-eq (n + 1) 16383 e))

    pub whole_line : n + 1 < length left → slice_index left (n + 1) ≡ 10 → IsWhole (n + 1 + 1) left
    whole_line k lf = record {
      ending = omega arith;
      within = omega (arith, k);
      cut = λ refused place.
          cut-behind refused place k
          ∙ ap (λ (b : ℕ). at_byte (byte_fault refused (take (n + 1) left) b) (place + (n + 1)) b (take (n + 1) left) (F refused place)) lf
          ∙ ap (λ (f : Option LineKind). at_byte f (place + (n + 1)) 10 (take (n + 1) left) (F refused place))
          (byte-is refused (take (n + 1) left) 10 (n + 1 == 16383) true true false false (ap (λ (k : ℕ). k == 16383) ret_length) is_behind refl refl refl ∙ no_limit (n + 1 == 16383) (refused (take (n + 1) left ++ 10 ∷ [])))
          ∙ by_refused refused place (refused (take (n + 1) left ++ 10 ∷ [])) refl;
    }
      where
        F : (List ℕ → Bool) → ℕ → List ℕ → Cut
        F refused place next = cut_from refused (place + (n + 1) + 1) next (drop (n + 1 + 1) left)

        line_is : take (n + 1) left ++ 10 ∷ [] ≡ take (n + 1 + 1) left
        line_is = ap (λ (b : ℕ). take (n + 1) left ++ b ∷ []) (sym lf) ∙ sym (take_more left (n + 1) 0 k)

        no_limit : (last agreed : Bool) → byte_by last true true agreed false false ≡ cond agreed (Some Agreed) None
        no_limit true agreed = refl
        no_limit false agreed = refl

        by_refused : (refused : List ℕ → Bool) (place : ℕ) (agreed : Bool) → refused (take (n + 1) left ++ 10 ∷ []) ≡ agreed
            → at_byte (cond agreed (Some Agreed) None) (place + (n + 1)) 10 (take (n + 1) left) (F refused place)
            ≡ cond (refused (take (n + 1 + 1) left)) (faulty Agreed (place + (n + 1 + 1 - 1))) (with_line (take (n + 1 + 1) left) (cut_from refused (place + (n + 1 + 1)) [] (drop (n + 1 + 1) left)))
        by_refused refused place true e =
            ap (faulty Agreed) (omega arith)
            ∙ sym (ap (λ (x : Bool). cond x (faulty Agreed (place + (n + 1 + 1 - 1))) (with_line (take (n + 1 + 1) left) (cut_from refused (place + (n + 1 + 1)) [] (drop (n + 1 + 1) left)))) (ap refused (sym line_is) ∙ e))
        by_refused refused place false e =
            ap₂ (λ (t : List ℕ) (k : ℕ). with_line t (cut_from refused k [] (drop (n + 1 + 1) left))) line_is (omega arith)
            ∙ sym (ap (λ (x : Bool). cond x (faulty Agreed (place + (n + 1 + 1 - 1))) (with_line (take (n + 1 + 1) left) (cut_from refused (place + (n + 1 + 1)) [] (drop (n + 1 + 1) left)))) (ap refused (sym line_is) ∙ e))

-- The lengths of names, one after the other.
use Rattle.std.proofs.Common.{◌≡◌, ℕ, zero, suc, ◌+◌, ◌-◌, ◌≤◌, Bool, true, false, cond, List, [], ◌∷◌, ◌++◌, length, refl, ap, ap₂, sym, ◌∙◌, arith, append_assoc, length-append, slice_get, Some, drop, take, replicate}
use Rattle.std.specs.Int.{w32}
use Rattle.std.specs.List.{filter}
use Rattle.dbus_names.specs.Texts.{Text}
use Rattle.dbus_values.specs.Values.{a_string, number_bytes, spelled, zeros}
use Rattle.dbus_values.specs.declared.Order.{Order}
use Rattle.dbus_values.proofs.ValueLaws.{text_len_is}
use Rattle.name_filters.specs.Names.{names_bytes}

abbrev pub one : Order → ℕ → Text → List ℕ
one o p name = spelled o p (a_string name)

-- names that begin later end later, and fewer end no later
pub fewer-end : (test : Text → Bool) (o : Order) (names : List Text) (p q : ℕ) → p ≤ q → p + length (names_bytes o p (filter test names)) ≤ q + length (names_bytes o q names)
fewer-end test o [] p q le = omega arith
fewer-end test o (name ∷ names) p q le =
    by (test name)
    (fewer-end test o names (p + length (one o p name)) (q + length (one o q name)) (omega (arith, text_len_is o p name, text_len_is o q name)))
    (fewer-end test o names p (q + length (one o q name)) (omega arith))
  where
    by : (b : Bool) →
        (p + length (one o p name)) + length (names_bytes o (p + length (one o p name)) (filter test names)) ≤ (q + length (one o q name)) + length (names_bytes o (q + length (one o q name)) names) →
        p + length (names_bytes o p (filter test names)) ≤ (q + length (one o q name)) + length (names_bytes o (q + length (one o q name)) names) →
        p + length (names_bytes o p (cond b (name ∷ filter test names) (filter test names))) ≤ q + length (names_bytes o q (name ∷ names))
    by true kept dropped =
        omega (arith, kept, length-append (one o p name) (names_bytes o (p + length (one o p name)) (filter test names)), length-append (one o q name) (names_bytes o (q + length (one o q name)) names))
    by false kept dropped = omega (arith, dropped, length-append (one o q name) (names_bytes o (q + length (one o q name)) names))

all : Text → Bool
all name = true

all-names : (names : List Text) → filter all names ≡ names
unfolding all
all-names [] = refl
all-names (name ∷ names) = ap (λ ns. name ∷ ns) (all-names names)

pub fewer-short : (test : Text → Bool) (o : Order) (names : List Text) (p : ℕ) → length (names_bytes o p (filter test names)) ≤ length (names_bytes o p names)
fewer-short test o names p = omega (arith, fewer-end test o names p p (omega arith))

-- without its first name a list is no longer
pub without-first : (o : Order) (name : Text) (names : List Text) (p : ℕ) → length (names_bytes o p names) ≤ length (names_bytes o p (name ∷ names))
without-first o name names p =
    let next = p + length (one o p name) in
    let later : p + length (names_bytes o p (filter all names)) ≤ next + length (names_bytes o next names) = fewer-end all o names p next (omega arith) in
    let same = ap (λ (ns : List Text). length (names_bytes o p ns)) (all-names names) in
    omega (arith, later, same, length-append (one o p name) (names_bytes o next names))

-- ---- one name more

pub zeros_front : (k : ℕ) → k ≤ 4 → take {A = ℕ} k (0 ∷ 0 ∷ 0 ∷ 0 ∷ []) ≡ replicate k 0
zeros_front zero le = refl
zeros_front (suc zero) le = refl
zeros_front (suc (suc zero)) le = refl
zeros_front (suc (suc (suc zero))) le = refl
zeros_front (suc (suc (suc (suc zero)))) le = refl
zeros_front (suc (suc (suc (suc (suc k))))) le = absurd (omega arith)

pub name-put : (o : Order) (place : ℕ) (items name gap number : List ℕ) → gap ≡ zeros 4 place → number ≡ number_bytes o w32 (length name) →
    ((items ++ gap) ++ number) ++ name ++ 0 ∷ [] ≡ items ++ one o place name
name-put o place items name gap number gap_is number_is =
    ap₂ (λ (g : List ℕ) (n : List ℕ). ((items ++ g) ++ n) ++ name ++ 0 ∷ []) gap_is number_is ∙ grouped items (zeros 4 place) (number_bytes o w32 (length name)) name (0 ∷ [])
  where
    grouped : (a b c d e : List ℕ) → ((a ++ b) ++ c) ++ d ++ e ≡ a ++ ((b ++ (c ++ d)) ++ e)
    grouped a b c d e = simp append_assoc

-- ---- one name of a list

-- what follows the bytes at the end, if these names are left
abbrev pub ended : (Text → Bool) → Order → ℕ → List ℕ → List Text → List ℕ
ended test o start items names = items ++ names_bytes o (length items - start) (filter test names)

pub kept-step : (test : Text → Bool) (o : Order) (start : ℕ) (items : List ℕ) (name : Text) (names : List Text) → start ≤ length items → test name ≡ true →
    ended test o start (items ++ one o (length items - start) name) names ≡ ended test o start items (name ∷ names)
kept-step test o start items name names le keeps =
    let place = length items - start in
    let next : length (items ++ one o place name) - start ≡ place + length (one o place name) = omega (arith, length-append items (one o place name)) in
    ap (λ p. (items ++ one o place name) ++ names_bytes o p (filter test names)) next
    ∙ append_assoc items (one o place name) (names_bytes o (place + length (one o place name)) (filter test names))
    ∙ ap (λ b. items ++ names_bytes o place (cond b (name ∷ filter test names) (filter test names))) (sym keeps)

pub dropped-step : (test : Text → Bool) (o : Order) (start : ℕ) (items : List ℕ) (name : Text) (names : List Text) → test name ≡ false →
    ended test o start items names ≡ ended test o start items (name ∷ names)
dropped-step test o start items name names drops =
    ap (λ b. items ++ names_bytes o (length items - start) (cond b (name ∷ filter test names) (filter test names))) (sym drops)

pub kept-left : (o : Order) (start : ℕ) (items : List ℕ) (name : Text) (names : List Text) → start ≤ length items →
    length (one o (length items - start) name) + length (names_bytes o (length (items ++ one o (length items - start) name) - start) names) ≡ length (names_bytes o (length items - start) (name ∷ names))
kept-left o start items name names le =
    let place = length items - start in
    let next : length (items ++ one o place name) - start ≡ place + length (one o place name) = omega (arith, length-append items (one o place name)) in
    ap (λ p. length (one o place name) + length (names_bytes o p names)) next ∙ sym (length-append (one o place name) (names_bytes o (place + length (one o place name)) names))

pub first-of : (names : List Text) (name : Text) → Some name ≡ slice_get names 0 → names ≡ name ∷ drop 1 names
first-of [] name e = absurd cc
first-of (n ∷ names) name e = let same : n ≡ name = cc in ap (λ m. m ∷ names) same

-- The entries that names mark.
use Rattle.std.proofs.Common.{◌≡◌, ◌<◌, ◌≤◌, ◌+◌, ℕ, zero, suc, if◌then◌else◌, Bool, true, false, ◌||◌, ◌&&◌, ◌==◌, nat_lt, List, [], ◌∷◌, ◌++◌, Option, Some, refl, ap, ap₂, sym, ◌∙◌, arith, length, get_or, option_map, string_bytes}
use Rattle.std.specs.List.{list_any}
use Rattle.std.specs.Prelude.{slice_get}
use Rattle.std.proofs.Math.ListN.{set}
use Rattle.std.proofs.lemmas.Bool.Decides.{nat_tests}
use Rattle.std.proofs.lemmas.Grind.{get_or-set_at}
use Rattle.std.proofs.lemmas.List.{get_or-set_other}
use Rattle.std.proofs.lemmas.List.Folds.{list_any-append}
use Rattle.std.proofs.lemmas.List.Sorted.{list_any-IsPermutation}
use Rattle.std.proofs.lemmas.Option.{slice_get_within}
use Rattle.dbus_names.specs.Texts.{Text}
use Rattle.name_patterns.specs.Patterns.{covers}
use Rattle.policy_args.specs.Covering.{AreCovering}
use Rattle.policy_args.specs.Levels.{numbers_where}
use Rattle.policy_args.specs.declared.entry.Entry.{Entry}
use Rattle.audit.specs.Audit.{is_named}
use Rattle.audit.specs.Tallies.{Marked}
use Rattle.audit.specs.declared.marks.Marks.{Marks}
use Rattle.audit.proofs.Counted.{equal_places, other_places}

or_false : (b : Bool) → (b || false) ≡ b
or_false true = refl
or_false false = refl

or_true : (b : Bool) → (b || true) ≡ true
or_true true = refl
or_true false = refl

-- with one name more
pub named-more : (names : List Text) (name : Text) (entry : Entry) → is_named (names ++ name ∷ []) entry ≡ (is_named names entry || covers entry.pattern name)
named-more names name entry = list_any-append (covers entry.pattern) names (name ∷ []) ∙ ap (λ b. is_named names entry || b) (or_false (covers entry.pattern name))

-- the name that came last marks nothing more
last_again : (names : List Text) (name : Text) (entry : Entry) → (covers entry.pattern name ≡ true → is_named names entry ≡ true) → is_named names entry ≡ (is_named names entry || covers entry.pattern name)
last_again names name entry looked = elim (covers entry.pattern name) as (λ b. (b ≡ true → is_named names entry ≡ true) → is_named names entry ≡ (is_named names entry || b)) [
  | true ↦ λ h. h refl ∙ sym (or_true (is_named names entry))
  | false ↦ λ h. sym (or_false (is_named names entry))
] looked

stays : (a b : Bool) → a ≡ true → (a || b) ≡ true
stays a b e = ap (λ c. c || b) e

pub marked-again : (entries : List Entry) (names : List Text) (marks : Marks) (name : Text) → option_map (λ text. string_bytes text) marks.last ≡ Some name → Marked entries names marks → Marked entries (names ++ name ∷ []) marks
marked-again entries names marks name last marked = record {
  len_is = marked.len_is;
  at = λ place entry is. marked.at place entry is ∙ last_again names name entry (marked.looked name last entry) ∙ sym (named-more names name entry);
  looked = λ text is entry covered. named-more names name entry ∙ stays _ _ (marked.looked text is entry covered);
}

same_name : (o : Option Text) (name text : Text) → o ≡ Some name → o ≡ Some text → text ≡ name
same_name o name text a b = let both : ◌≡◌ {A = Option Text} (Some text) (Some name) = sym b ∙ a in cc

pub marked-more : (entries : List Entry) (names : List Text) (old new : Marks) (marks : List Bool) (name : Text) → length marks ≡ length old.marks.items →
    ((place : ℕ) (entry : Entry) → length old.marks.items ≡ length entries → slice_get entries place ≡ Some entry → get_or marks place false ≡ (get_or old.marks.items place false || covers entry.pattern name)) →
    new.marks.items ≡ marks → option_map (λ text. string_bytes text) new.last ≡ Some name → Marked entries names old → Marked entries (names ++ name ∷ []) new
marked-more entries names old new marks name len at is last marked = record {
  len_is = ap length is ∙ len ∙ marked.len_is;
  at = λ place entry there. ap (λ (ms : List Bool). get_or ms place false) is ∙ at place entry marked.len_is there ∙ ap (λ b. b || covers entry.pattern name) (marked.at place entry there) ∙ sym (named-more names name entry);
  looked = λ text was entry covered. named-more names name entry
      ∙ ap (λ b. is_named names entry || b) (ap (λ t. covers entry.pattern t) (sym (same_name _ name text last was)) ∙ covered) ∙ or_true (is_named names entry);
}

-- and those of others
pub marked-both : (entries : List Entry) (names more : List Text) (old other new : Marks) → new.last ≡ old.last → length new.marks.items ≡ length old.marks.items →
    ((place : ℕ) → place < length old.marks.items → get_or new.marks.items place false ≡ (get_or old.marks.items place false || get_or other.marks.items place false)) →
    Marked entries names old → Marked entries more other → Marked entries (names ++ more) new
marked-both entries names more old other new last len at one two = record {
  len_is = len ∙ one.len_is;
  at = λ place entry there. at place (omega (arith, slice_get_within entries place entry there, one.len_is)) ∙ ap₂ (λ a b. a || b) (one.at place entry there) (two.at place entry there) ∙ sym (list_any-append (covers entry.pattern) names more);
  looked = λ text was entry covered. list_any-append (covers entry.pattern) names more ∙ stays _ _ (one.looked text (ap (option_map (λ t. string_bytes t)) (sym last) ∙ was) entry covered);
}

-- ---- the entries of numbers

-- the entry at a place covers the name exactly where its number, counted from 1, is one of those that cover it
other_number : (n k : ℕ) (p : Entry → Bool) (es : List Entry) → n < k → list_any (λ m. n == m) (numbers_where p k es) ≡ false
other_number n k p [] less = refl
other_number n k p (e ∷ es) less = by (p e) (other_number n (k + 1) p es (omega (arith, less)))
  where
    apart : (n == k) ≡ false
    apart = grind (arith, nat_tests, less)

    by : (b : Bool) → list_any (λ m. n == m) (numbers_where p (k + 1) es) ≡ false → list_any (λ m. n == m) (if b then k ∷ numbers_where p (k + 1) es else numbers_where p (k + 1) es) ≡ false
    by true rest = ap₂ (λ u v. u || v) apart rest
    by false rest = rest

found_later : (p : Entry → Bool) (k : ℕ) (e : Entry) (es : List Entry) (i : ℕ) (entry : Entry) → list_any (λ m. k + 1 + i == m) (numbers_where p (k + 1) es) ≡ p entry → list_any (λ m. k + suc i == m) (numbers_where p k (e ∷ es)) ≡ p entry
found_later p k e es i entry found = by (p e)
  where
    later : list_any (λ m. k + suc i == m) (numbers_where p (k + 1) es) ≡ p entry
    later = ap (λ n. list_any (λ m. n == m) (numbers_where p (k + 1) es)) (omega arith) ∙ found

    apart : (k + suc i == k) ≡ false
    apart = grind (arith, nat_tests)

    by : (b : Bool) → list_any (λ m. k + suc i == m) (if b then k ∷ numbers_where p (k + 1) es else numbers_where p (k + 1) es) ≡ p entry
    by true = ap₂ (λ u v. u || v) apart later
    by false = later

number_found : (p : Entry → Bool) (k : ℕ) (es : List Entry) (i : ℕ) (entry : Entry) → slice_get es i ≡ Some entry → list_any (λ m. k + i == m) (numbers_where p k es) ≡ p entry
number_found p k [] i entry there = absurd cc
number_found p k (e ∷ es) zero entry there = by (p e) refl ∙ ap p same
  where
    same : e ≡ entry
    same = cc

    here : (k + 0 == k) ≡ true
    here = grind (arith, nat_tests)

    by : (b : Bool) → p e ≡ b → list_any (λ m. k + 0 == m) (if b then k ∷ numbers_where p (k + 1) es else numbers_where p (k + 1) es) ≡ b
    by true is = ap (λ b. b || list_any (λ m. k + 0 == m) (numbers_where p (k + 1) es)) here
    by false is = other_number (k + 0) (k + 1) p es (omega arith)
number_found p k (e ∷ es) (suc i) entry there = found_later p k e es i entry (number_found p (k + 1) es i entry there)

pub covering-at : (entries : List Entry) (name numbers : List ℕ) (place : ℕ) (entry : Entry) → AreCovering entries name numbers → slice_get entries place ≡ Some entry →
    list_any (λ m. place + 1 == m) numbers ≡ covers entry.pattern name
covering-at entries name numbers place entry are there =
    sym (list_any-IsPermutation (λ m. place + 1 == m) (numbers_where (λ e. covers e.pattern name) 1 entries) numbers are)
    ∙ ap (λ n. list_any (λ m. n == m) (numbers_where (λ e. covers e.pattern name) 1 entries)) (omega arith)
    ∙ number_found (λ e. covers e.pattern name) 1 entries place entry there

-- ---- one number after the other

-- what is marked, with what the numbers that are left mark, is what was marked at the start or covers the name
abbrev pub MarkedTo : List Entry → Text → List Bool → List ℕ → List Bool → Type 0
MarkedTo entries name start left marks =
    (place : ℕ) (entry : Entry) → slice_get entries place ≡ Some entry → (get_or marks place false || list_any (λ m. place + 1 == m) left) ≡ (get_or start place false || covers entry.pattern name)

pub marked-none : (entries : List Entry) (name : Text) (start : List Bool) (numbers : List ℕ) → AreCovering entries name numbers → MarkedTo entries name start numbers start
marked-none entries name start numbers are = λ place entry there. ap (λ b. get_or start place false || b) (covering-at entries name numbers place entry are there)

pub marked-step : (entries : List Entry) (name : Text) (start marks new : List Bool) (number : ℕ) (left : List ℕ) → length marks ≡ length entries →
    ((place : ℕ) → place < length marks → get_or new place false ≡ (get_or marks place false || place + 1 == number)) → MarkedTo entries name start (number ∷ left) marks → MarkedTo entries name start left new
marked-step entries name start marks new number left len at so_far = λ place entry there.
    ap (λ b. b || list_any (λ m. place + 1 == m) left) (at place (omega (arith, slice_get_within entries place entry there, len)))
    ∙ associates (get_or marks place false) (place + 1 == number) (list_any (λ m. place + 1 == m) left) ∙ so_far place entry there
  where
    associates : (a b c : Bool) → ((a || b) || c) ≡ (a || (b || c))
    associates true b c = refl
    associates false b c = refl

pub marked-all : (entries : List Entry) (name : Text) (start marks : List Bool) → MarkedTo entries name start [] marks → (place : ℕ) (entry : Entry) → slice_get entries place ≡ Some entry →
    get_or marks place false ≡ (get_or start place false || covers entry.pattern name)
marked-all entries name start marks so_far place entry there = sym (or_false (get_or marks place false)) ∙ so_far place entry there

-- ---- one mark of others after the other

or_and : (a c : Bool) → ((a || (false && c)) || c) ≡ (a || (true && c))
or_and true c = refl
or_and false c = refl

-- the first this many marks of others were taken over
abbrev pub JoinedTo : List Bool → List Bool → ℕ → List Bool → Type 0
JoinedTo start other n marks = (place : ℕ) → get_or marks place false ≡ (get_or start place false || (nat_lt place n && get_or other place false))

pub joined-none : (start other : List Bool) → JoinedTo start other 0 start
joined-none start other = λ place.
    let tested : nat_lt place 0 ≡ false = grind (arith, nat_tests) in
    sym (or_false (get_or start place false)) ∙ ap (λ b. get_or start place false || (b && get_or other place false)) (sym tested)

pub joined-step : (start other marks : List Bool) (n : ℕ) → n < length marks → JoinedTo start other n marks → JoinedTo start other (n + 1) (set marks n (get_or marks n false || get_or other n false))
joined-step start other marks n lt so_far = λ place.
    elim (n == place) as (λ b. (n == place) ≡ b → get_or (set marks n (get_or marks n false || get_or other n false)) place false ≡ (get_or start place false || (nat_lt place (n + 1) && get_or other place false))) [
      | true ↦ λ e.
          let same : place ≡ n = equal_places n place e in
          let before : nat_lt place n ≡ false = grind (arith, nat_tests, same) in
          let behind : nat_lt place (n + 1) ≡ true = grind (arith, nat_tests, same) in
          get_or-set_at marks n place _ false same lt
          ∙ ap₂ (λ a b. a || b) (ap (λ k. get_or marks k false) (sym same) ∙ so_far place) (ap (λ k. get_or other k false) (sym same))
          ∙ ap (λ b. (get_or start place false || (b && get_or other place false)) || get_or other place false) before
          ∙ or_and (get_or start place false) (get_or other place false)
          ∙ ap (λ b. get_or start place false || (b && get_or other place false)) (sym behind)
      | false ↦ λ e.
          let tested : nat_lt place n ≡ nat_lt place (n + 1) = grind (arith, nat_tests, e) in
          get_or-set_other marks n place _ false (other_places n place e) ∙ so_far place ∙ ap (λ b. get_or start place false || (b && get_or other place false)) tested
    ] refl

pub joined-all : (start other marks : List Bool) (n : ℕ) → length start ≤ n → JoinedTo start other n marks → (place : ℕ) → place < length start →
    get_or marks place false ≡ (get_or start place false || get_or other place false)
joined-all start other marks n all so_far = λ place within.
    let behind : nat_lt place n ≡ true = grind (arith, nat_tests, within, all) in
    so_far place ∙ ap (λ b. get_or start place false || (b && get_or other place false)) behind

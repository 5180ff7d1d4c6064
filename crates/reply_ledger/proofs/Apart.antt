-- A sender's calls, as one serial and the others.
use Rattle.std.proofs.Common.{◌≡◌, ◌≢◌, ◌≤◌, ◌<◌, ◌+◌, ◌-◌, ℕ, zero, suc, true, false, Option, Some, None, refl, ap, ap₂, sym, subst, ◌∙◌, arith, unwrap_or, is_some}
use Rattle.std.proofs.lemmas.Bool.Decides.{Decides-eqb}
use Rattle.std.specs.Bool.{if◌then◌else◌}
use Rattle.std.specs.Ordering.{nat_cmp}
use Rattle.std.specs.FinMap.{empty, get, insert, remove, get-empty}
use Rattle.reply_ledger.specs.Apart.{AreApart}
use Rattle.reply_ledger.specs.Owed.{IsKept, Serials, count_in, left_in, one_less_in, one_more_in, with_count}
use Rattle.reply_ledger.proofs.Counting.{put_kept, with_count-none, with_count-some}
use Rattle.reply_ledger.proofs.Maps.{again, at_other, at_out, at_self, by_number, out_put, out_swapped, put_out, swapped}

-- ---- how many

pub first-count : (others : Serials) (n s c : ℕ) → n ≡ s → count_in (insert others s c) n ≡ c
first-count others n s c same = ap (λ k. count_in (insert others s c) k) same ∙ ap (λ o. unwrap_or o 0) (at_self others s c)

pub other-count : (others : Serials) (n s c : ℕ) → n ≢ s → count_in (insert others s c) n ≡ count_in others n
other-count others n s c apart = ap (λ o. unwrap_or o 0) (at_other others n s c apart)

-- ---- one more

pub first-more : (others : Serials) (n s c : ℕ) → n ≡ s → insert others s (c + 1) ≡ one_more_in (insert others s c) n
first-more others n s c same =
    sym (again others s c (c + 1)) ∙ ap₂ (λ k v. insert (insert others s c) k (v + 1)) (sym same) (sym (first-count others n s c same))

pub other-more : (others : Serials) (n s c : ℕ) → n ≢ s → insert (one_more_in others n) s c ≡ one_more_in (insert others s c) n
other-more others n s c apart =
    swapped others n (count_in others n + 1) s c apart ∙ ap (λ v. insert (insert others s c) n (v + 1)) (sym (other-count others n s c apart))

pub one-apart : (s : ℕ) → AreApart s 1 empty
one-apart s = record { counted = omega arith; apart = get-empty nat_cmp s; positive = λ n is. let both : None ≡ Some 0 = sym (get-empty nat_cmp n) ∙ is in cc }

pub one-view : (s : ℕ) → insert empty s 1 ≡ one_more_in empty s
one-view s = ap (λ o. insert empty s (unwrap_or o 0 + 1)) (sym (get-empty nat_cmp s))

pub first-apart : (s c d : ℕ) (others : Serials) → 1 ≤ d → AreApart s c others → AreApart s d others
first-apart s c d others le are = record { counted = le; apart = are.apart; positive = are.positive }

put_positive : (m : Serials) (n v : ℕ) → 1 ≤ v → ((k : ℕ) → get m k ≡ Some 0 → ⊥) → (k : ℕ) → get (insert m n v) k ≡ Some 0 → ⊥
put_positive m n v le positive k is = (put_kept m n v positive le).positive k is

pub more-apart : (n s c : ℕ) (others : Serials) → n ≢ s → AreApart s c others → AreApart s c (one_more_in others n)
more-apart n s c others apart are =
    record {
      counted = are.counted;
      apart = at_other others s n (count_in others n + 1) (λ same. apart (sym same)) ∙ are.apart;
      positive = put_positive others n (count_in others n + 1) (omega arith) are.positive;
    }

-- ---- one less

out_positive : (m : Serials) (n : ℕ) → ((k : ℕ) → get m k ≡ Some 0 → ⊥) → (k : ℕ) → get (remove m n) k ≡ Some 0 → ⊥
out_positive m n positive k is =
    by_number (λ b. (if b then None else get m k) ≡ Some 0 → ⊥) n k (λ same e. let no : None ≡ Some 0 = e in cc) (λ e. positive k e) (sym (at_out m n k) ∙ is)

with_count-positive : (m : Serials) (n v : ℕ) → ((k : ℕ) → get m k ≡ Some 0 → ⊥) → (k : ℕ) → get (with_count m n v) k ≡ Some 0 → ⊥
with_count-positive m n zero positive k is = out_positive m n positive k is
with_count-positive m n (suc v) positive k is = put_positive m n (suc v) (omega arith) positive k is

less-positive : (m : Serials) (n : ℕ) → ((k : ℕ) → get m k ≡ Some 0 → ⊥) → (k : ℕ) → get (one_less_in m n) k ≡ Some 0 → ⊥
less-positive m n positive k is = by (get m n) is
  where
    by : (o : Option ℕ) → get (left_in m n o) k ≡ Some 0 → ⊥
    by None e = positive k e
    by (Some v) e = with_count-positive m n (v - 1) positive k e

with_count-swapped : (m : Serials) (n v s c : ℕ) → n ≢ s → insert (with_count m n v) s c ≡ with_count (insert m s c) n v
with_count-swapped m n zero s c apart = out_swapped m n s c apart
with_count-swapped m n (suc v) s c apart = swapped m n (suc v) s c apart

pub other-less : (others : Serials) (n s c : ℕ) → n ≢ s → insert (one_less_in others n) s c ≡ one_less_in (insert others s c) n
other-less others n s c apart = by (get others n) ∙ ap (left_in (insert others s c) n) (sym (at_other others n s c apart))
  where
    by : (o : Option ℕ) → insert (left_in others n o) s c ≡ left_in (insert others s c) n o
    by None = refl
    by (Some v) = with_count-swapped others n (v - 1) s c apart

with_count-other : (m : Serials) (n v s : ℕ) → n ≢ s → get (with_count m n v) s ≡ get m s
with_count-other m n zero s apart = at_out m n s ∙ by_number (λ b. (if b then None else get m s) ≡ get m s) n s (λ same. absurd (apart same)) refl
with_count-other m n (suc v) s apart = at_other m s n (suc v) (λ same. apart (sym same))

less-other : (m : Serials) (n s : ℕ) → n ≢ s → get (one_less_in m n) s ≡ get m s
less-other m n s apart = by (get m n)
  where
    by : (o : Option ℕ) → get (left_in m n o) s ≡ get m s
    by None = refl
    by (Some v) = with_count-other m n (v - 1) s apart

pub less-apart : (n s c : ℕ) (others : Serials) → n ≢ s → AreApart s c others → AreApart s c (one_less_in others n)
less-apart n s c others apart are =
    record { counted = are.counted; apart = less-other others n s apart ∙ are.apart; positive = less-positive others n are.positive }

pub other-counted : (others : Serials) (n s c : ℕ) → n ≢ s → AreApart s c others → is_some (get others n) ≡ true → 0 < count_in (insert others s c) n
other-counted others n s c apart are some = subst (λ (v : ℕ). 0 < v) (sym (other-count others n s c apart)) (by (get others n) refl some)
  where
    by : (o : Option ℕ) → get others n ≡ o → is_some o ≡ true → 0 < unwrap_or o 0
    by None is e = absurd cc
    by (Some zero) is e = absurd (are.positive n is)
    by (Some (suc v)) is e = omega arith

pub other-absent : (others : Serials) (n s c : ℕ) → n ≢ s → is_some (get others n) ≡ false → get (insert others s c) n ≡ None
other-absent others n s c apart none = at_other others n s c apart ∙ by (get others n) none
  where
    by : (o : Option ℕ) → is_some o ≡ false → o ≡ None
    by None e = refl
    by (Some v) e = absurd cc

pub absent-same : (others : Serials) (n : ℕ) → is_some (get others n) ≡ false → one_less_in others n ≡ others
absent-same others n none = by (get others n) none
  where
    by : (o : Option ℕ) → is_some o ≡ false → left_in others n o ≡ others
    by None e = refl
    by (Some v) e = absurd cc

pub apart-kept : (s c : ℕ) (others : Serials) → AreApart s c others → IsKept (insert others s c)
apart-kept s c others are = put_kept others s c are.positive are.counted

first-left : (others : Serials) (n s c : ℕ) → n ≡ s → one_less_in (insert others s c) n ≡ with_count (insert others s c) s (c - 1)
first-left others n s c same = ap (one_less_in (insert others s c)) same ∙ ap (left_in (insert others s c) s) (at_self others s c)

pub first-less : (others : Serials) (n s c : ℕ) → n ≡ s → 1 < c → insert others s (c - 1) ≡ one_less_in (insert others s c) n
first-less others n s c same lt =
    let some : 1 ≤ c - 1 = omega arith in
    sym (again others s c (c - 1)) ∙ sym (with_count-some (insert others s c) s (c - 1) some) ∙ sym (first-left others n s c same)

-- the first serial is answered, and another one takes its place
pub popped-less : (others : Serials) (n s c t d : ℕ) → n ≡ s → c ≤ 1 → get others s ≡ None → get others t ≡ Some d → insert (remove others t) t d ≡ one_less_in (insert others s c) n
popped-less others n s c t d same le none some =
    let zero : c - 1 ≤ 0 = omega arith in
    out_put others t d some ∙ sym (put_out others s c none) ∙ sym (with_count-none (insert others s c) s (c - 1) zero) ∙ sym (first-left others n s c same)

pub popped-apart : (s c t d : ℕ) (others : Serials) → AreApart s c others → get others t ≡ Some d → AreApart t d (remove others t)
popped-apart s c t d others are some =
    record {
      counted = by d some;
      apart = at_out others t t ∙ ap (λ b. if b then None else get others t) ((Decides-eqb t t).1 refl);
      positive = out_positive others t are.positive;
    }
  where
    by : (v : ℕ) → get others t ≡ Some v → 1 ≤ v
    by zero is = absurd (are.positive t is)
    by (suc v) is = omega arith

-- the first serial was the only one
pub last-view : (n s c : ℕ) → n ≡ s → 1 ≤ c → c ≤ 1 → insert empty s c ≡ one_more_in empty n
last-view n s c same low high = let one : c ≡ 1 = omega arith in ap₂ (λ k v. insert empty k v) (sym same) one ∙ one-view n

-- Maps with numbers as keys: what is at a key after an insertion or a removal, and which of these can be swapped.
use Rattle.std.proofs.Common.{◌≡◌, ◌≢◌, ◌==◌, ℕ, Bool, true, false, Some, None, cond, refl, ap, sym, ◌∙◌, arith}
use Rattle.std.proofs.lemmas.Bool.Decides.{nat_tests, Decides-eqb}
use Rattle.std.specs.Bool.{if◌then◌else◌}
use Rattle.std.specs.Ordering.{nat_cmp}
use Rattle.std.specs.Cmp.{nat_cmp_total, eq_by_cmp_equiv, unsigned_tied}
use Rattle.std.specs.FinMap.{FinMap, get, insert, remove, get-insert, get-remove, same_map, nat_cmp-IsAntisymmetric}

-- by whether two numbers are equal
pub by_number : (P : Bool → Type 0) (n k : ℕ) → (n ≡ k → P true) → P false → P (n == k)
by_number P n k same other = by (n == k) (Decides-eqb n k).0
  where
    by : (b : Bool) → (b ≡ true → n ≡ k) → P b
    by true is = same (is refl)
    by false is = other

module _ {X : Type 0} where
  -- ---- what is at a key

  pub at_put : (m : FinMap nat_cmp X) (n : ℕ) (v : X) (k : ℕ) → get (insert m n v) k ≡ (if n == k then Some v else get m k)
  at_put m n v k = get-insert nat_cmp_total m n v k ∙ ap (λ b. cond b (Some v) (get m k)) ((eq_by_cmp_equiv nat_cmp_total).symm k n ∙ unsigned_tied n k)

  pub at_out : (m : FinMap nat_cmp X) (n k : ℕ) → get (remove m n) k ≡ (if n == k then None else get m k)
  at_out m n k = get-remove nat_cmp_total m n k ∙ ap (λ b. cond b None (get m k)) ((eq_by_cmp_equiv nat_cmp_total).symm k n ∙ unsigned_tied n k)

  pub at_self : (m : FinMap nat_cmp X) (n : ℕ) (v : X) → get (insert m n v) n ≡ Some v
  at_self m n v = at_put m n v n ∙ ap (λ b. if b then Some v else get m n) ((Decides-eqb n n).1 refl)

  pub at_other : (m : FinMap nat_cmp X) (k n : ℕ) (v : X) → k ≢ n → get (insert m n v) k ≡ get m k
  at_other m k n v apart = at_put m n v k ∙ by_number (λ b. (if b then Some v else get m k) ≡ get m k) n k (λ same. absurd (apart (sym same))) refl

  pub at_out_other : (m : FinMap nat_cmp X) (k n : ℕ) → k ≢ n → get (remove m n) k ≡ get m k
  at_out_other m k n apart = at_out m n k ∙ by_number (λ b. (if b then None else get m k) ≡ get m k) n k (λ same. absurd (apart (sym same))) refl

  -- ---- equal maps

  ext : (m n : FinMap nat_cmp X) → ((q : ℕ) → get m q ≡ get n q) → m ≡ n
  ext m n same = same_map nat_cmp_total nat_cmp-IsAntisymmetric m n same

  pub again : (m : FinMap nat_cmp X) (n : ℕ) (v w : X) → insert (insert m n v) n w ≡ insert m n w
  again m n v w = ext _ _ (λ q.
      at_put (insert m n v) n w q ∙ ap (λ o. if n == q then Some w else o) (at_put m n v q)
      ∙ by_number (λ b. (if b then Some w else (if b then Some v else get m q)) ≡ (if b then Some w else get m q)) n q (λ same. refl) refl
      ∙ sym (at_put m n w q))

  pub swapped : (m : FinMap nat_cmp X) (n : ℕ) (v : X) (k : ℕ) (w : X) → n ≢ k → insert (insert m n v) k w ≡ insert (insert m k w) n v
  swapped m n v k w apart = ext _ _ (λ q.
      let one = at_put (insert m n v) k w q in
      let two = at_put m n v q in
      let three = at_put (insert m k w) n v q in
      let four = at_put m k w q in
      grind (arith, nat_tests, one, two, three, four))

  pub out_swapped : (m : FinMap nat_cmp X) (n k : ℕ) (w : X) → n ≢ k → insert (remove m n) k w ≡ remove (insert m k w) n
  out_swapped m n k w apart = ext _ _ (λ q.
      let one = at_put (remove m n) k w q in
      let two = at_out m n q in
      let three = at_out (insert m k w) n q in
      let four = at_put m k w q in
      grind (arith, nat_tests, one, two, three, four))

  pub put_out : (m : FinMap nat_cmp X) (n : ℕ) (v : X) → get m n ≡ None → remove (insert m n v) n ≡ m
  put_out m n v none = ext _ _ (λ q.
      at_out (insert m n v) n q ∙ ap (λ o. if n == q then None else o) (at_put m n v q)
      ∙ by_number (λ b. (if b then None else (if b then Some v else get m q)) ≡ get m q) n q (λ same. sym none ∙ ap (get m) same) refl)

  pub out_put : (m : FinMap nat_cmp X) (n : ℕ) (v : X) → get m n ≡ Some v → insert (remove m n) n v ≡ m
  out_put m n v some = ext _ _ (λ q.
      at_put (remove m n) n v q ∙ ap (λ o. if n == q then Some v else o) (at_out m n q)
      ∙ by_number (λ b. (if b then Some v else (if b then None else get m q)) ≡ get m q) n q (λ same. sym some ∙ ap (get m) same) refl)

  pub out_none : (m : FinMap nat_cmp X) (n : ℕ) → get m n ≡ None → remove m n ≡ m
  out_none m n none = ext _ _ (λ q.
      at_out m n q ∙ by_number (λ b. (if b then None else get m q) ≡ get m q) n q (λ same. sym none ∙ ap (get m) same) refl)

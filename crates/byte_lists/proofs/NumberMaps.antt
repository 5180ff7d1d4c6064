-- A `BTreeMap` with numbers as keys, as a finite map.
use Rattle.std.proofs.Common.{◌≡◌, ℕ, Option, Some, None, List, [], ◌∷◌, cond, refl, ap, sym, ◌∙◌}
use Rattle.std.specs.Ordering.{nat_cmp}
use Rattle.std.specs.Cmp.{nat_cmp_total, eq_by_cmp_equiv}
use Rattle.std.specs.Map.{lookup}
use Rattle.std.specs.BTreeMap.{is_at}
use Rattle.std.specs.FinMap.{from_entries, get-from_entries, get-insert, get-remove, same_map, find, insert, remove, get, nat_cmp-IsAntisymmetric}

-- what the entries have at a key
abbrev pub at : {X : Type 0} → List (ℕ × X) → ℕ → Option X
at es q = lookup (is_at (nat_cmp q)) es

find_at : {X : Type 0} (es : List (ℕ × X)) (q : ℕ) → find nat_cmp q es ≡ at es q
find_at [] q = refl
find_at (e ∷ es) q = ap (cond (is_at (nat_cmp q) e.0) (Some e.1)) (find_at es q)

pub get_at : {X : Type 0} (es : List (ℕ × X)) (q : ℕ) → get (from_entries {R = nat_cmp} es) q ≡ at es q
get_at es q = get-from_entries nat_cmp_total es q ∙ find_at es q

pub one_given : {X : Type 0} (es fs : List (ℕ × X)) (s : ℕ) (n : X) → ((q : ℕ) → at fs q ≡ cond (is_at (nat_cmp s) q) (Some n) (at es q)) → from_entries {R = nat_cmp} fs ≡ insert (from_entries es) s n
one_given es fs s n h = same_map nat_cmp_total nat_cmp-IsAntisymmetric _ _ (λ q.
    get_at fs q ∙ h q ∙ ap (λ b. cond b (Some n) (at es q)) ((eq_by_cmp_equiv nat_cmp_total).symm s q)
    ∙ sym (get-insert nat_cmp_total (from_entries es) s n q ∙ ap (cond (is_at (nat_cmp q) s) (Some n)) (get_at es q)))

pub one_taken : {X : Type 0} (es fs : List (ℕ × X)) (s : ℕ) → ((q : ℕ) → at fs q ≡ cond (is_at (nat_cmp s) q) None (at es q)) → from_entries {R = nat_cmp} fs ≡ remove (from_entries es) s
one_taken es fs s h = same_map nat_cmp_total nat_cmp-IsAntisymmetric _ _ (λ q.
    get_at fs q ∙ h q ∙ ap (λ b. cond b None (at es q)) ((eq_by_cmp_equiv nat_cmp_total).symm s q)
    ∙ sym (get-remove nat_cmp_total (from_entries es) s q ∙ ap (cond (is_at (nat_cmp q) s) None) (get_at es q)))

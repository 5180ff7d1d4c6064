-- A `BTreeMap` with `String` keys, as a finite map with the keys' bytes.
use Rattle.std.proofs.Common.{◌≡◌, ℕ, Some, None, List, [], ◌∷◌, cond, refl, ap, sym, ◌∙◌, string_bytes, String}
use Rattle.std.specs.Ordering.{nat_cmp, is_eq, eq_by_cmp}
use Rattle.std.specs.Cmp.{eq_by_cmp_equiv}
use Rattle.std.specs.Cmp.Lexicographic.{slice_cmp}
use Rattle.std.proofs.lemmas.Cmp.{nat_list_cmp_total}
use Rattle.std.proofs.lemmas.Map.Lookups.{exact_bytes}
use Rattle.std.proofs.lemmas.Map.Text.{is_eq-slice_cmp}
use Rattle.std.specs.Map.{lookup}
use Rattle.std.specs.Str.{bytes_eq}
use Rattle.std.specs.BTreeMap.{BTreeMap, is_at, get_by_text}
use Rattle.std.specs.FinMap.{from_entries, get-from_entries, get-insert, get-remove, same_map, find, insert, remove, get}
use Rattle.byte_lists.specs.TextMaps.{by_bytes}

find_text : {Z X : Type 0} (es : List (String Z × X)) (q : List ℕ) → find (slice_cmp nat_cmp) q (by_bytes es) ≡ lookup (is_at (λ k. slice_cmp nat_cmp q (string_bytes k))) es
find_text [] q = refl
find_text (e ∷ es) q = ap (cond (is_eq (slice_cmp nat_cmp q (string_bytes e.0))) (Some e.1)) (find_text es q)

-- what is at a text
pub get_text : {Z X : Type 0} (es : List (String Z × X)) (q : List ℕ) → get (from_entries {R = slice_cmp nat_cmp} (by_bytes es)) q ≡ lookup (is_at (λ k. slice_cmp nat_cmp q (string_bytes k))) es
get_text es q = get-from_entries nat_list_cmp_total (by_bytes es) q ∙ find_text es q

-- one text more, or another value at one
pub text_given : {Z X : Type 0} (m n : BTreeMap (String Z) X) (k : List ℕ) (v : X) → ((q : List ℕ) → get_by_text n q ≡ cond (bytes_eq k q) (Some v) (get_by_text m q)) →
    from_entries {R = slice_cmp nat_cmp} (by_bytes n.entries) ≡ insert (from_entries (by_bytes m.entries)) k v
text_given m n k v h = same_map nat_list_cmp_total exact_bytes _ _ (λ q.
    get_text n.entries q ∙ h q ∙ ap (λ b. cond b (Some v) (get_by_text m q)) (sym (is_eq-slice_cmp k q) ∙ (eq_by_cmp_equiv nat_list_cmp_total).symm k q)
    ∙ sym (get-insert nat_list_cmp_total (from_entries (by_bytes m.entries)) k v q ∙ ap (cond (eq_by_cmp (slice_cmp nat_cmp) q k) (Some v)) (get_text m.entries q)))

-- one text less
pub text_taken : {Z X : Type 0} (m n : BTreeMap (String Z) X) (k : List ℕ) → ((q : List ℕ) → get_by_text n q ≡ cond (bytes_eq k q) None (get_by_text m q)) →
    from_entries {R = slice_cmp nat_cmp} (by_bytes n.entries) ≡ remove (from_entries (by_bytes m.entries)) k
text_taken m n k h = same_map nat_list_cmp_total exact_bytes _ _ (λ q.
    get_text n.entries q ∙ h q ∙ ap (λ b. cond b None (get_by_text m q)) (sym (is_eq-slice_cmp k q) ∙ (eq_by_cmp_equiv nat_list_cmp_total).symm k q)
    ∙ sym (get-remove nat_list_cmp_total (from_entries (by_bytes m.entries)) k q ∙ ap (cond (eq_by_cmp (slice_cmp nat_cmp) q k) None) (get_text m.entries q)))

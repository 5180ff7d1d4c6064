-- The pass by its loop, from the last byte to the first.
use Rattle.std.proofs.Common.{◌≡◌, ℕ, zero, suc, ◌+◌, ◌≤◌, List, [], ◌∷◌, length, get_or, drop, take, reverse, refl, sym, ap, ◌∙◌, arith, drop-cons, if◌then◌else◌, Some, None}
use Rattle.std.specs.Prelude.{option_and_then, ◌==◌}
use Rattle.std.proofs.lemmas.Bool.{ne_eqb}
use Rattle.dbus_types.specs.Signature.{fault_of_types, signature_fault, types_of}
use Rattle.dbus_types.specs.declared.BadSignature.TheVariants.{Form}
use Rattle.dbus_types.specs.declared.level.Level.{Level}
use Rattle.dbus_types.specs.Codes.{code_of}
use Rattle.dbus_types.specs.Scan.{Levels, step, scan_back, outside_level, all_types, fault_of_all, fault_outside, fault_of_levels}
use Rattle.dbus_types.proofs.ScanLaws.{fault_of_levels-is}
use Rattle.dbus_types.proofs.PlaceLaws.{fault_inside}

none_left : (bytes : List ℕ) → drop (length bytes) bytes ≡ []
none_left [] = refl
none_left (c ∷ bytes) = none_left bytes

pub scan_from_end : (bytes : List ℕ) → scan_back (drop (length bytes) bytes) ≡ Some outside_level
scan_from_end bytes = ap scan_back (none_left bytes)

pub scan_one_more : (bytes : List ℕ) (index m : ℕ) (s : Levels) → index ≡ m + 1 → index ≤ length bytes → scan_back (drop index bytes) ≡ Some s
    → scan_back (drop m bytes) ≡ step (code_of (get_or bytes m 0)) s
scan_one_more bytes index m s e h was =
    let same : index ≡ suc m = omega arith in
    ap scan_back (drop-cons bytes m 0 (omega arith))
    ∙ ap (λ (k : ℕ). option_and_then (step (code_of (get_or bytes m 0))) (scan_back (drop k bytes))) (sym same)
    ∙ ap (option_and_then (step (code_of (get_or bytes m 0)))) was

none_before : (m : ℕ) (bytes : List ℕ) → scan_back (drop m bytes) ≡ None → scan_back bytes ≡ None
none_before zero bytes e = e
none_before (suc m) [] e = e
none_before (suc m) (c ∷ bytes) e = ap (option_and_then (step (code_of c))) (none_before m bytes e)

pub scan_refused : (bytes : List ℕ) (m : ℕ) → scan_back (drop m bytes) ≡ None → Some Form ≡ fault_of_types (types_of bytes)
scan_refused bytes m e = sym (ap fault_of_levels (none_before m bytes e)) ∙ fault_of_levels-is bytes

fault_at : (l : Level) (outer : List Level) (depth : ℕ) → depth ≤ length outer → (if depth == 0 then fault_of_all (all_types l) else Some Form) ≡ fault_outside l (reverse (take depth outer))
fault_at l outer zero h = refl
fault_at l outer (suc n) h =
    ap (λ b. if b then fault_of_all (all_types l) else Some Form) (ne_eqb (suc n) 0 (λ e. omega arith))
    ∙ sym (fault_inside l outer (suc n) n (omega arith) h)

pub scan_ends : (bytes : List ℕ) (l : Level) (outer : List Level) (depth : ℕ) → depth ≤ length outer → scan_back bytes ≡ Some (l, reverse (take depth outer))
    → (if depth == 0 then fault_of_all (all_types l) else Some Form) ≡ fault_of_types (types_of bytes)
scan_ends bytes l outer depth h e = fault_at l outer depth h ∙ sym (ap fault_of_levels e) ∙ fault_of_levels-is bytes

pub fault_of_single : (bytes : List ℕ) → length bytes ≡ 1 → fault_of_levels (step (code_of (get_or bytes 0 0)) outside_level) ≡ signature_fault bytes
fault_of_single [] e = absurd (omega arith)
fault_of_single (c ∷ []) e = fault_of_levels-is (c ∷ [])
fault_of_single (c ∷ d ∷ bytes) e = absurd (omega arith)

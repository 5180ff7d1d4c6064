-- Levels in a list, as a stack.
use Rattle.std.proofs.Common.{◌≡◌, ℕ, ◌+◌, ◌≤◌, List, [], ◌∷◌, length, get_or, take, reverse, ap, ◌∙◌, arith}
use Rattle.std.specs.Prelude.{Some}
use Rattle.std.proofs.lemmas.List.{take_more, reverse-append}
use Rattle.dbus_types.specs.declared.BadSignature.TheVariants.{Form}
use Rattle.dbus_types.specs.declared.level.Level.{Level}
use Rattle.dbus_types.specs.declared.level.Shape.{Shape}
use Rattle.dbus_types.specs.Scan.{with_type, with_last, fault_outside}

last_taken : (ls : List Level) (n m : ℕ) (d : Level) → n ≡ m + 1 → n ≤ length ls → reverse (take n ls) ≡ get_or ls m d ∷ reverse (take m ls)
last_taken ls n m d e h =
    ap (λ k. reverse (take k ls)) e
    ∙ ap reverse (take_more ls m d (omega arith))
    ∙ reverse-append (take m ls) (get_or ls m d ∷ [])

pub with_last_taken : (t : Shape) (ls : List Level) (n m : ℕ) (d : Level) → n ≡ m + 1 → n ≤ length ls → with_last t (reverse (take n ls)) ≡ Some (with_type t (get_or ls m d), reverse (take m ls))
with_last_taken t ls n m d e h = ap (with_last t) (last_taken ls n m d e h)

pub fault_inside : (l : Level) (ls : List Level) (n m : ℕ) → n ≡ m + 1 → n ≤ length ls → fault_outside l (reverse (take n ls)) ≡ Some Form
fault_inside l ls n m e h = ap (fault_outside l) (last_taken ls n m l e h)

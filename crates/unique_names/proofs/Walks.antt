-- The number of look-ups of a walk over the numbers of a name.
use Rattle.std.proofs.Common.{◌≡◌, ◌+◌, ◌*◌, ℕ, suc, List, [], ◌∷◌, length, ap, ◌∙◌, arith}
use Rattle.std.proofs.Math.Nat.{one-mul, suc-mul}
use Rattle.dbus_names.specs.Texts.{Text}
use Rattle.name_patterns.specs.Ranks.{elements}
use Rattle.unique_names.specs.Merged.{look_ups}

-- each number takes those of the name
pub one-found : (name : Text) (ns : List ℕ) (n : ℕ) (rest : List ℕ) → ns ≡ n ∷ rest → look_ups name ns ≡ look_ups name rest + elements name
one-found name ns n rest is =
    let more : length (n ∷ rest) + 1 ≡ suc (length rest + 1) = omega arith in
    ap (look_ups name) is ∙ ap (λ k. k * elements name) more ∙ suc-mul (length rest + 1) (elements name)

-- and that there is none more
pub none-found : (name : Text) (ns : List ℕ) → ns ≡ [] → look_ups name ns ≡ elements name
none-found name ns is = ap (look_ups name) is ∙ one-mul (elements name)

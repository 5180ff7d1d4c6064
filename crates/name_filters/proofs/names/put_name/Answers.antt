use Rattle.std.proofs.Common.{◌≤◌, ◌-◌, ◌%◌, ◌++◌, [], ◌∷◌, List, ℕ, length, take, ap, ap₂, ◌∙◌, arith}
use Rattle.name_filters.proofs.NameBytes.{name-put, zeros_front}
use Rattle.name_filters.proofs.names.put_name.Goals as goal

pub returns-clause-name : goal.returns-clause-name
returns-clause-name c =
    let place = length c.args.into.now.items - c.args.start in
    let few : (4 - place % 4) % 4 ≤ 4 = omega arith in
    c.extend_reserved-4.ensures.items
    ∙ ap (λ (b : List ℕ). b ++ 0 ∷ [])
    (c.extend_reserved-3.ensures.items
    ∙ ap₂ (λ (b : List ℕ) (n : List ℕ). b ++ n) (c.extend_reserved-2.ensures.items ∙ ap (λ (b : List ℕ). b ++ c.bytes_of_u32.result) c.extend_reserved.ensures.items) c.as_bytes.ensures.value)
    ∙ name-put c.args.order place c.args.into.now.items c.args.name.now (take {A = ℕ} ((4 - (c.len.result - c.args.start) % 4) % 4) (0 ∷ 0 ∷ 0 ∷ 0 ∷ [])) c.bytes_of_u32.result
    (ap (λ n. take {A = ℕ} ((4 - (n - c.args.start) % 4) % 4) (0 ∷ 0 ∷ 0 ∷ 0 ∷ [])) c.len.ensures.value ∙ zeros_front ((4 - place % 4) % 4) few) c.bytes_of_u32.ensures

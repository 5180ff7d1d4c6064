-- Four of the bytes that were joined last are replaced by others.
use Rattle.std.proofs.Common.{◌≡◌, ◌+◌, ◌++◌, ℕ, List, length, take, drop, ap, ap₂, sym, ◌∙◌, arith}
use Rattle.std.proofs.lemmas.List.{append_assoc}
use Rattle.std.proofs.Math.Seq.{take-append-add, drop-append-add, take-append_seam}

-- bytes that follow others are replaced as they are by themselves
pub replaced_behind : (xs bytes others : List ℕ) (place : ℕ)
    → take (length xs + place) (xs ++ bytes) ++ others ++ drop (length xs + place + 4) (xs ++ bytes)
    ≡ xs ++ (take place bytes ++ others ++ drop (place + 4) bytes)
replaced_behind xs bytes others place =
    let at : length xs + place + 4 ≡ length xs + (place + 4) = omega arith in
    ap₂ (λ front rest. front ++ others ++ rest)
    (take-append-add xs bytes place)
    (ap (λ n. drop n (xs ++ bytes)) at ∙ drop-append-add xs bytes (place + 4))
    ∙ append_assoc (xs ++ take place bytes) others (drop (place + 4) bytes)
    ∙ append_assoc xs (take place bytes) (others ++ drop (place + 4) bytes)
    ∙ ap (λ l. xs ++ l) (sym (append_assoc (take place bytes) others (drop (place + 4) bytes)))

-- what was written through a slice is all that is there then, since it is as long
pub replaced_last : (parts now xs all written new bytes others : List ℕ) (n place : ℕ)
    → now ≡ parts ++ xs → n ≡ length xs → all ≡ xs ++ bytes → written ≡ all
    → new ≡ take (n + place) written ++ others ++ drop (n + place + 4) written → length new ≡ length written
    → parts ++ take (length all) (new ++ drop (length new) all) ≡ now ++ (take place bytes ++ others ++ drop (place + 4) bytes)
replaced_last parts now xs all written new bytes others n place now_is n_is all_is written_is new_is len =
    let long : length all ≡ length new = sym (len ∙ ap length written_is) in
    let kept : take (length all) (new ++ drop (length new) all) ≡ new =
    ap (λ k. take k (new ++ drop (length new) all)) long ∙ take-append_seam new (drop (length new) all) in
    let one : new ≡ take (length xs + place) (xs ++ bytes) ++ others ++ drop (length xs + place + 4) (xs ++ bytes) =
    new_is ∙ ap₂ (λ k l. take (k + place) l ++ others ++ drop (k + place + 4) l) n_is (written_is ∙ all_is) in
    ap (λ l. parts ++ l) (kept ∙ one ∙ replaced_behind xs bytes others place)
    ∙ sym (append_assoc parts xs (take place bytes ++ others ++ drop (place + 4) bytes))
    ∙ ap (λ l. l ++ (take place bytes ++ others ++ drop (place + 4) bytes)) (sym now_is)

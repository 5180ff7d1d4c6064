-- Whole messages, by their first sixteen bytes.
use Rattle.std.proofs.Common.{◌≡◌, ℕ, List, ◌++◌, take, drop, None, sym, ap, ◌∙◌, arith}
use Rattle.std.specs.Array.{IsFirstChunk}
use Rattle.std.proofs.lemmas.List.{take-append-drop, length-take-le}
use Rattle.byte_lists.proofs.Options.{some}
use Rattle.dbus_header.specs.Malformed.{head_fault, whole_len}
use Rattle.dbus_header.specs.declared.Malformed.{Malformed}
use Rattle.dbus_header.proofs.StreamLaws.{same_head}

pub same_as_head : (bytes head : List ℕ) → IsFirstChunk bytes head 16 → (whole_len bytes ≡ whole_len head) × (head_fault bytes ≡ head_fault head)
same_as_head bytes head is =
    let same = same_head (take 16 bytes) (drop 16 bytes) (omega (arith, length-take-le 16 bytes is.enough)) in
    let parts : bytes ≡ take 16 bytes ++ drop 16 bytes = sym (take-append-drop 16 bytes) in (
      ap whole_len parts ∙ same.1 ∙ ap whole_len (sym is.same),
      ap head_fault parts ∙ same.0 ∙ ap head_fault (sym is.same),
    )

pub no_fault : {A : Type 0} (f : Malformed) → some f ≡ None → A
no_fault f e = absurd cc

-- What goes out to a sink, in one step or in several.
use Rattle.std.proofs.Common.{◌≡◌, ◌<◌, ◌+◌, ℕ, List, [], ◌∷◌, ◌++◌, length, get_or, Option, Bor, refl, ap, sym, ◌∙◌, append_assoc, append-nil, take, drop, arith}
use Rattle.std.specs.Prelude.{flat_map}
use Rattle.std.proofs.lemmas.Grind.{common_steps}
use Rattle.std.proofs.lemmas.List.{take-append-drop}
use Rattle.std.proofs.lemmas.List.Concat.{flat_map-append}
use Rattle.link_traits.specs.Told.{added, Part}
use Rattle.link_traits.proofs.Parts.{added-none, added-twice, part_second, then_all}
use Rattle.explain_log.specs.Buffers.{GoesOut}

-- what is left of these bytes, whatever it is
abbrev pub Cut : List ℕ → Option (List ℕ) → Option (List ℕ) → Type 0
Cut bytes told new = (rest : List ℕ) × GoesOut bytes rest told new

-- nothing went out
pub none_goes : (bytes : List ℕ) (told : Option (List ℕ)) → GoesOut bytes bytes told told
none_goes bytes told = record { got = []; split = refl; is = sym (added-none told) }

-- what waits goes out, and then more bytes do
pub both_go : (waits bytes left : List ℕ) (told mid new : Option (List ℕ)) → left ≡ [] → mid ≡ added waits told → new ≡ added bytes mid →
    GoesOut (waits ++ bytes) left told new
both_go waits bytes left told mid new none first second =
    record { got = waits ++ bytes; split = rw none (sym (append-nil (waits ++ bytes))); is = then_all told mid new waits bytes first second }

-- what waits goes out, and more bytes wait
pub more_wait : (waits bytes left : List ℕ) (told new : Option (List ℕ)) → left ≡ bytes → new ≡ added waits told → GoesOut (waits ++ bytes) left told new
more_wait waits bytes left told new more first = record { got = waits; split = ap (λ x. waits ++ x) (sym more); is = first }

-- a prefix goes out
pub part_goes : (bytes : List ℕ) (told new : Option (List ℕ)) → Part told new bytes → Cut bytes told new
part_goes bytes told new part = (drop part.count bytes, record { got = take part.count bytes; split = sym (take-append-drop part.count bytes); is = part.got })

-- what waits goes out, and then a prefix of more bytes does
pub then_part : (waits bytes : List ℕ) (told mid new : Option (List ℕ)) → mid ≡ added waits told → Part mid new bytes → Cut (waits ++ bytes) told new
then_part waits bytes told mid new first part = part_goes (waits ++ bytes) told new (part_second told mid new waits bytes first part)

-- some bytes go out, and then more of them
pub goes_then : (bytes waits more left : List ℕ) (told mid new : Option (List ℕ)) → GoesOut bytes waits told mid → GoesOut (waits ++ more) left mid new →
    GoesOut (bytes ++ more) left told new
goes_then bytes waits more left told mid new first second =
    record {
      got = first.got ++ second.got;
      split = ap (λ x. x ++ more) first.split ∙ append_assoc first.got waits more ∙ ap (λ x. first.got ++ x) second.split ∙ sym (append_assoc first.got second.got left);
      is = then_all told mid new first.got second.got first.is second.is;
    }

-- the rest has more bytes after it
pub cut_before : (bytes more : List ℕ) (told new : Option (List ℕ)) → Cut bytes told new → Cut (bytes ++ more) told new
cut_before bytes more told new (rest, goes) =
    (rest ++ more, record { got = goes.got; split = ap (λ x. x ++ more) goes.split ∙ append_assoc goes.got rest more; is = goes.is })

-- ---- the pieces of a line, one after the other

abbrev pub joined : List (Bor (List ℕ)) → List ℕ
joined pieces = flat_map (λ piece. piece.now) pieces

-- one piece more
joined_more : (pieces : List (Bor (List ℕ))) (i : ℕ) (d : Bor (List ℕ)) → i < length pieces → joined (take (i + 1) pieces) ≡ joined (take i pieces) ++ (get_or pieces i d).now
joined_more pieces i d within = grind (arith, common_steps)

-- the pieces so far and those after them
joined_rest : (pieces : List (Bor (List ℕ))) (i : ℕ) → joined (take i pieces) ++ joined (drop i pieces) ≡ joined pieces
joined_rest pieces i = sym (flat_map-append (λ (piece : Bor (List ℕ)). piece.now) (take i pieces) (drop i pieces)) ∙ ap joined (take-append-drop i pieces)

-- a piece goes out after those before it
pub piece_goes : (start piece waits left : List ℕ) (pieces : List (Bor (List ℕ))) (i : ℕ) (d : Bor (List ℕ)) (told mid new : Option (List ℕ)) → i < length pieces →
    piece ≡ (get_or pieces i d).now → GoesOut (start ++ joined (take i pieces)) waits told mid → GoesOut (waits ++ piece) left mid new →
    GoesOut (start ++ joined (take (i + 1) pieces)) left told new
piece_goes start piece waits left pieces i d told mid new within is before goes =
    rw (joined_more pieces i d within, ← is, ← append_assoc start (joined (take i pieces)) piece)
    (goes_then (start ++ joined (take i pieces)) waits piece left told mid new before goes)

-- a prefix of a piece does, and the rest of the line is left
pub piece_cut : (start piece waits : List ℕ) (pieces : List (Bor (List ℕ))) (i : ℕ) (d : Bor (List ℕ)) (told mid new : Option (List ℕ)) (line : List ℕ) → i < length pieces →
    piece ≡ (get_or pieces i d).now → joined pieces ≡ line → GoesOut (start ++ joined (take i pieces)) waits told mid → Cut (waits ++ piece) mid new →
    Cut (start ++ line) told new
piece_cut start piece waits pieces i d told mid new line within is whole before (rest, goes) =
    let so_far = cut_before (start ++ joined (take (i + 1) pieces)) (joined (drop (i + 1) pieces)) told new
    (rest, piece_goes start piece waits rest pieces i d told mid new within is before goes) in
    rw (← whole, ← joined_rest pieces (i + 1), ← append_assoc start (joined (take (i + 1) pieces)) (joined (drop (i + 1) pieces))) so_far

-- What was written, what was made and what is still to come are together a sample.
use Rattle.std.proofs.Common.{ℕ, ◌≡◌, ◌++◌, ◌∷◌, List, flat_map, sym, ap, ap₂, ◌∙◌, append_assoc, append-nil}
use Rattle.std.proofs.lemmas.Grind.{flat_map-append}
use Rattle.std.specs.Prelude.{◌%◌, ◌^◌}
use Rattle.recording.specs.Recording.{Event, magic, spelled_event, spelled_recording}
use Rattle.sample.specs.Sample.{draws, opening, sample}

abbrev bytes_of : List Event → List ℕ
bytes_of events = flat_map spelled_event events

bytes_behind : (one two : List Event) → bytes_of (one ++ two) ≡ bytes_of one ++ bytes_of two
bytes_behind one two = flat_map-append spelled_event one two

-- at first the opening is made, and all draws are to come
pub at_first : (n seed : ℕ) (out : List ℕ) (events : List Event) → out ≡ magic ++ 1 ∷ 0 ∷ bytes_of opening → events ≡ draws n 1 (seed % 2 ^ 31) 2 4 →
    out ++ bytes_of events ≡ spelled_recording (sample n seed)
unfolding spelled_recording sample
at_first n seed out events o e =
    ap₂ (λ a b. a ++ bytes_of b) o e
    ∙ append_assoc magic (1 ∷ 0 ∷ bytes_of opening) (bytes_of (draws n 1 (seed % 2 ^ 31) 2 4))
    ∙ ap (λ t. magic ++ 1 ∷ 0 ∷ t) (sym (bytes_behind opening (draws n 1 (seed % 2 ^ 31) 2 4)))

-- a draw is made after what was made
pub one_more : (written out : List ℕ) (made to_come all : List Event) (whole : List ℕ) → all ≡ made ++ to_come → written ++ (out ++ bytes_of all) ≡ whole →
    written ++ ((out ++ bytes_of made) ++ bytes_of to_come) ≡ whole
one_more written out made to_come all whole e split =
    ap (λ t. written ++ t) (append_assoc out (bytes_of made) (bytes_of to_come) ∙ ap (λ t. out ++ t) (sym (bytes_behind made to_come) ∙ ap bytes_of (sym e))) ∙ split

-- and what is in front is written
pub moved_on : (written piece left out rest whole : List ℕ) → piece ++ left ≡ out → written ++ (out ++ rest) ≡ whole → (written ++ piece) ++ (left ++ rest) ≡ whole
moved_on written piece left out rest whole e split =
    append_assoc written piece (left ++ rest)
    ∙ ap (λ t. written ++ t) (sym (append_assoc piece left rest) ∙ ap (λ t. t ++ rest) e) ∙ split

-- at last nothing is to come
pub at_last : (written out : List ℕ) (left i x c b : ℕ) (whole : List ℕ) → left ≡ 0 → written ++ (out ++ bytes_of (draws left i x c b)) ≡ whole → written ++ out ≡ whole
at_last written out left i x c b whole none split =
    ap (λ t. written ++ t) (sym (append-nil out) ∙ ap (λ n. out ++ bytes_of (draws n i x c b)) (sym none)) ∙ split

-- The files that words name, word by word.
use Rattle.std.proofs.Common.{◌≡◌, ◌<◌, ℕ, ◌+◌, List, [], ◌∷◌, ◌++◌, Option, ap, sym, ◌∙◌, length, map, take, drop, String, string_bytes, slice_index_or, append_assoc}
use Rattle.std.proofs.Math.Seq.{take-append_seam}
use Rattle.std.specs.List.{cons_option}
use Rattle.std.proofs.lemmas.List.{map-append, take_more, take-append-drop}
use Rattle.std.proofs.lemmas.List.Elements.{filter_map-append}
use Rattle.link_traits.specs.Told.{ReadFront}
use Rattle.link_traits.proofs.Parts.{take-all}
use Rattle.link_traits.specs.Texts.{texts_of}
use Rattle.line_words.specs.declared.reading.LineStop.{LineStop}
use Rattle.line_words.specs.declared.reading.LineStop.TheVariants as stop
use Rattle.line_words.specs.Words.{args_path}
use Rattle.line_words.specs.FilesRead.{paths_in, ReadUntil, IsNamedBy}

-- all files are a prefix of themselves
pub read_all : (named reads new_reads : List (List ℕ)) → new_reads ≡ reads ++ named → ReadFront named reads new_reads
read_all named reads new_reads e = record { count = length named; are = e ∙ ap (λ (paths : List (List ℕ)). reads ++ paths) (sym (take-all named)) }

-- .. and so are the first of two parts
pub read_first : (named first rest reads new_reads : List (List ℕ)) → named ≡ first ++ rest → new_reads ≡ reads ++ first → ReadFront named reads new_reads
read_first named first rest reads new_reads two e = record {
  count = length first;
  are = e ∙ ap (λ (paths : List (List ℕ)). reads ++ paths) (sym (ap (take (length first)) two ∙ take-append_seam first rest));
}

-- the words up to the next
pub words_then : {Z : Type 0} (words : List (String Z)) (i : ℕ) (word : String Z) → i < length words → word ≡ slice_index_or words i word →
    texts_of (take (i + 1) words) ≡ texts_of (take i words) ++ string_bytes word ∷ []
words_then {Z = Z} words i word lt e =
    ap (map (λ w. string_bytes w)) (take_more words i word lt ∙ ap (λ (w : String Z). take i words ++ w ∷ []) (sym e))
    ∙ map-append (λ w. string_bytes w) (take i words) (word ∷ [])

-- the paths of one word more
pub read_next : {Z : Type 0} (words : List (String Z)) (i : ℕ) (word : String Z) (reads now new_reads : List (List ℕ)) → i < length words → word ≡ slice_index_or words i word →
    now ≡ reads ++ paths_in (texts_of (take i words)) → new_reads ≡ now ++ paths_in (string_bytes word ∷ []) →
    new_reads ≡ reads ++ paths_in (texts_of (take (i + 1) words))
read_next words i word reads now new_reads lt is so_far next =
    let first = texts_of (take i words) in
    next ∙ ap (λ (paths : List (List ℕ)). paths ++ paths_in (string_bytes word ∷ [])) so_far
    ∙ append_assoc reads (paths_in first) (paths_in (string_bytes word ∷ []))
    ∙ ap (λ (paths : List (List ℕ)). reads ++ paths) (sym (ap paths_in (words_then words i word lt is) ∙ filter_map-append args_path first (string_bytes word ∷ [])))

-- if the next word stops them
pub read_until : {Z : Type 0} (words : List (String Z)) (i : ℕ) (word : String Z) (reads now new_reads : List (List ℕ)) (why : LineStop) → i < length words → word ≡ slice_index_or words i word →
    now ≡ reads ++ paths_in (texts_of (take i words)) → new_reads ≡ now ++ paths_in (string_bytes word ∷ []) → IsNamedBy (string_bytes word) why →
    ReadUntil (paths_in (texts_of words)) reads new_reads why
read_until {Z = Z} words i word reads now new_reads why lt is so_far next named = by why named
  where
    first : List (List ℕ)
    first = texts_of (take i words)

    rest : List (List ℕ)
    rest = texts_of (drop (i + 1) words)

    parts : paths_in (texts_of words) ≡ paths_in (texts_of (take (i + 1) words)) ++ paths_in rest
    parts =
        ap (λ (ws : List (String Z)). paths_in (texts_of ws)) (sym (take-append-drop (i + 1) words))
        ∙ ap paths_in (map-append (λ w. string_bytes w) (take (i + 1) words) (drop (i + 1) words))
        ∙ filter_map-append args_path (texts_of (take (i + 1) words)) rest

    more : paths_in (texts_of (take (i + 1) words)) ≡ paths_in first ++ paths_in (string_bytes word ∷ [])
    more = ap paths_in (words_then words i word lt is) ∙ filter_map-append args_path first (string_bytes word ∷ [])

    front : ReadFront (paths_in (texts_of words)) reads new_reads
    front = read_first (paths_in (texts_of words)) (paths_in (texts_of (take (i + 1) words))) (paths_in rest) reads new_reads parts
        (read_next words i word reads now new_reads lt is so_far next)

    by : (stopped : LineStop) → IsNamedBy (string_bytes word) stopped → ReadUntil (paths_in (texts_of words)) reads new_reads stopped
    by (stop.File path) h =
        let one : paths_in (string_bytes word ∷ []) ≡ string_bytes path ∷ [] = ap (λ (o : Option (List ℕ)). cons_option o []) h in
        record {
          before = paths_in first;
          after = paths_in rest;
          among = parts ∙ ap (λ (paths : List (List ℕ)). paths ++ paths_in rest) (more ∙ ap (λ (paths : List (List ℕ)). paths_in first ++ paths) one)
              ∙ append_assoc (paths_in first) (string_bytes path ∷ []) (paths_in rest);
          are = next ∙ ap (λ (paths : List (List ℕ)). now ++ paths) one ∙ ap (λ (paths : List (List ℕ)). paths ++ string_bytes path ∷ []) so_far;
        }
    by stop.TooLong h = front
    by (stop.Bad bad) h = front
    by stop.Memory h = front

-- if memory runs out before the next word
pub read_before : {Z : Type 0} (words : List (String Z)) (i : ℕ) (reads now : List (List ℕ)) → now ≡ reads ++ paths_in (texts_of (take i words)) → ReadFront (paths_in (texts_of words)) reads now
read_before words i reads now so_far =
    read_first (paths_in (texts_of words)) (paths_in (texts_of (take i words))) (paths_in (texts_of (drop i words))) reads now
    (ap (λ (ws : List (String _)). paths_in (texts_of ws)) (sym (take-append-drop i words)) ∙ ap paths_in (map-append (λ w. string_bytes w) (take i words) (drop i words))
    ∙ filter_map-append args_path (texts_of (take i words)) (texts_of (drop i words)))
    so_far

-- The files that words need, word by word.
use Rattle.std.proofs.Common.{◌≡◌, ◌<◌, ◌⊎◌, inl, inr, ℕ, ◌+◌, List, [], ◌∷◌, ◌++◌, Option, Some, None, refl, ap, sym, ◌∙◌, length, subst, take, drop, String, string_bytes, slice_index_or, append_assoc}
use Rattle.std.specs.List.{cons_option}
use Rattle.std.proofs.lemmas.List.{append-nil, map-append, take-append-drop}
use Rattle.std.proofs.lemmas.List.Elements.{filter_map-append}
use Rattle.link_traits.specs.Told.{ReadFront}
use Rattle.link_traits.specs.Texts.{texts_of}
use Rattle.line_words.specs.declared.reading.LineStop.{LineStop}
use Rattle.line_words.specs.declared.reading.LineStop.TheVariants as stop
use Rattle.line_words.specs.Words.{Told, Line, Untold, args_path, line_from, line_in}
use Rattle.line_words.specs.Stops.{IsSettled, Expands}
use Rattle.line_words.specs.FilesRead.{paths_in, behind_file, up_to_bad, needed_by, NeededUntil, NoneIsBad, IsLast, EndsNeeded}
use Rattle.line_words.proofs.WordLaws.{knows_all, line_same, next_word}
use Rattle.line_words.proofs.ReadLaws.{words_then, read_first}

-- ---- one word

one_path : (word : List ℕ) (o : Option (List ℕ)) → args_path word ≡ o → paths_in (word ∷ []) ≡ cons_option o []
one_path word o e = ap (λ (x : Option (List ℕ)). cons_option x []) e

-- ---- words, one after the other

-- if the same is known, the same files are needed
needed_same : (was now : Told) → ((p : List ℕ) → now p ≡ was p) → (paths : List (List ℕ)) → up_to_bad now paths ≡ up_to_bad was paths
needed_same was now same [] = refl
needed_same was now same (path ∷ others) = ap (λ (paths : List (List ℕ)). path ∷ paths)
    (ap (λ (o : Option (List ℕ)). behind_file o (up_to_bad now others)) (same path) ∙ ap (behind_file (was path)) (needed_same was now same others))

-- one word more, none of whose files is bad
sound_more : (was now : Told) (first : List (List ℕ)) (word : List ℕ) → ((p : List ℕ) → now p ≡ was p) → NoneIsBad was first → NoneIsBad now (word ∷ []) → NoneIsBad was (first ++ word ∷ [])
sound_more was now first word same so_far next others =
    let one = paths_in (word ∷ []) in
    let two : paths_in (first ++ word ∷ []) ≡ paths_in first ++ one = filter_map-append args_path first (word ∷ []) in
    ap (λ (paths : List (List ℕ)). up_to_bad was (paths ++ others)) two
    ∙ ap (up_to_bad was) (append_assoc (paths_in first) one others)
    ∙ so_far (one ++ others)
    ∙ ap (λ (paths : List (List ℕ)). paths_in first ++ paths) (sym (needed_same was now same (one ++ others)) ∙ next others ∙ ap (λ (paths : List (List ℕ)). one ++ paths) (needed_same was now same others))
    ∙ sym (append_assoc (paths_in first) one (up_to_bad was others))
    ∙ ap (λ (paths : List (List ℕ)). paths ++ up_to_bad was others) (sym two)

pub sound_then : {Z : Type 0} (was now : Told) (words : List (String Z)) (i : ℕ) (word : String Z) → i < length words → word ≡ slice_index_or words i word → ((p : List ℕ) → now p ≡ was p) →
    NoneIsBad was (texts_of (take i words)) → NoneIsBad now (string_bytes word ∷ []) → NoneIsBad was (texts_of (take (i + 1) words))
sound_then was now words i word lt is same so_far next =
    subst (λ (ws : List (List ℕ)). NoneIsBad was ws) (sym (words_then words i word lt is)) (sound_more was now (texts_of (take i words)) (string_bytes word) same so_far next)

-- if no file is bad, all are needed
pub all_needed : (told : Told) (words reads new_reads : List (List ℕ)) → NoneIsBad told words → new_reads ≡ reads ++ paths_in words → new_reads ≡ reads ++ needed_by told words
all_needed told words reads new_reads sound e =
    e ∙ ap (λ (paths : List (List ℕ)). reads ++ paths) (sym (ap (up_to_bad told) (sym (append-nil (paths_in words))) ∙ sound [] ∙ append-nil (paths_in words)))

-- ---- if a word stops them

-- what is needed from a word on
abbrev from_word : Told → Option (List ℕ) → List (List ℕ) → List (List ℕ)
from_word told None others = up_to_bad told others
from_word told (Some path) others = behind_file (told path) (up_to_bad told others)

word_front : (told : Told) (word : List ℕ) (others : List (List ℕ)) (o : Option (List ℕ)) → args_path word ≡ o → up_to_bad told (paths_in (word ∷ []) ++ others) ≡ paths_in (word ∷ []) ++ from_word told o others
word_front told word others None e =
    ap (λ (paths : List (List ℕ)). up_to_bad told (paths ++ others)) (one_path word None e) ∙ ap (λ (paths : List (List ℕ)). paths ++ up_to_bad told others) (sym (one_path word None e))
word_front told word others (Some path) e =
    ap (λ (paths : List (List ℕ)). up_to_bad told (paths ++ others)) (one_path word (Some path) e)
    ∙ ap (λ (paths : List (List ℕ)). paths ++ behind_file (told path) (up_to_bad told others)) (sym (one_path word (Some path) e))

module _ (was now : Told) (first rest : List (List ℕ)) (word : List ℕ) (reads between new_reads : List (List ℕ)) (same : (p : List ℕ) → now p ≡ was p)
    (so_far : between ≡ reads ++ paths_in first) (next : new_reads ≡ between ++ paths_in (word ∷ [])) (sound : NoneIsBad was first) where
  abbrev one : List (List ℕ)
  one = paths_in (word ∷ [])

  are_read : new_reads ≡ reads ++ (paths_in first ++ one)
  are_read = next ∙ ap (λ (paths : List (List ℕ)). paths ++ one) so_far ∙ append_assoc reads (paths_in first) one

  are_needed : needed_by was (first ++ word ∷ rest) ≡ paths_in first ++ up_to_bad was (one ++ paths_in rest)
  are_needed =
      ap (up_to_bad was) (filter_map-append args_path first (word ∷ rest) ∙ ap (λ (paths : List (List ℕ)). paths_in first ++ paths) (filter_map-append args_path (word ∷ []) rest))
      ∙ sound (one ++ paths_in rest)

  front : ReadFront (needed_by was (first ++ word ∷ rest)) reads new_reads
  front = read_first (needed_by was (first ++ word ∷ rest)) (paths_in first ++ one) (from_word was (args_path word) (paths_in rest)) reads new_reads
      (are_needed ∙ ap (λ (paths : List (List ℕ)). paths_in first ++ paths) (word_front was word (paths_in rest) (args_path word) refl)
      ∙ sym (append_assoc (paths_in first) one (from_word was (args_path word) (paths_in rest)))) are_read

  all : IsLast now word → new_reads ≡ reads ++ needed_by was (first ++ word ∷ rest)
  all last = are_read ∙ ap (λ (paths : List (List ℕ)). reads ++ paths)
      (sym (are_needed ∙ ap (λ (paths : List (List ℕ)). paths_in first ++ paths) (sym (needed_same was now same (one ++ paths_in rest)) ∙ last (paths_in rest))))

  needed_until : (settled : Type 0) (before : List (List ℕ)) (why : LineStop) → (settled → IsSettled (line_from now before (word ∷ rest))) → EndsNeeded now before word why →
      NeededUntil settled (needed_by was (first ++ word ∷ rest)) reads new_reads why
  needed_until settled before (stop.File path) here ends = front
  needed_until settled before stop.TooLong here ends = (front, λ s. all (ends rest (here s)))
  needed_until settled before (stop.Bad bad) here ends = (front, λ s. all (ends rest (here s)))
  needed_until settled before stop.Memory here ends = front

-- the result of all words is that of the rest after those before
settles_rest : (was now : Told) (words before rest : List (List ℕ)) → ((p : List ℕ) → now p ≡ was p) → Expands was [] words before rest → IsSettled (line_in was words) → IsSettled (line_from now before rest)
settles_rest was now words before rest same h settled = by (h was (knows_all was))
  where
    by : (line_from was [] words ≡ Untold) ⊎ (line_from was [] words ≡ line_from was before rest) → IsSettled (line_from now before rest)
    by (inl e) = absurd (subst (λ (l : Line). IsSettled l) e settled)
    by (inr e) = subst (λ (l : Line). IsSettled l) (e ∙ sym (line_same was now same before rest)) settled

pub stops_needed : {Z : Type 0} (was now : Told) (words : List (String Z)) (i : ℕ) (word : String Z) (before reads between new_reads : List (List ℕ)) (why : LineStop) →
    i < length words → word ≡ slice_index_or words i word → ((p : List ℕ) → now p ≡ was p) →
    between ≡ reads ++ paths_in (texts_of (take i words)) → new_reads ≡ between ++ paths_in (string_bytes word ∷ []) →
    NoneIsBad was (texts_of (take i words)) → Expands was [] (texts_of words) before (texts_of (drop i words)) → EndsNeeded now before (string_bytes word) why →
    NeededUntil (IsSettled (line_in was (texts_of words))) (needed_by was (texts_of words)) reads new_reads why
stops_needed {Z = Z} was now words i word before reads between new_reads why lt is same so_far next sound expands ends =
    subst (λ (ws : List (List ℕ)). NeededUntil (IsSettled (line_in was (texts_of words))) (needed_by was ws) reads new_reads why) (sym parts)
    (needed_until was now first rest (string_bytes word) reads between new_reads same so_far next sound (IsSettled (line_in was (texts_of words))) before why
    (λ settled. subst (λ (ws : List (List ℕ)). IsSettled (line_from now before ws)) (next_word words i word lt is) (settles_rest was now (texts_of words) before (texts_of (drop i words)) same expands settled))
    ends)
  where
    first : List (List ℕ)
    first = texts_of (take i words)

    rest : List (List ℕ)
    rest = texts_of (drop (i + 1) words)

    parts : texts_of words ≡ first ++ string_bytes word ∷ rest
    parts =
        ap (λ (ws : List (String Z)). texts_of ws) (sym (take-append-drop i words))
        ∙ map-append (λ w. string_bytes w) (take i words) (drop i words)
        ∙ ap (λ (ws : List (List ℕ)). first ++ ws) (next_word words i word lt is)

-- if memory runs out before the next word
pub needed_before : {Z : Type 0} (was : Told) (words : List (String Z)) (i : ℕ) (reads now : List (List ℕ)) → now ≡ reads ++ paths_in (texts_of (take i words)) →
    NoneIsBad was (texts_of (take i words)) → ReadFront (needed_by was (texts_of words)) reads now
needed_before {Z = Z} was words i reads now so_far sound =
    read_first (needed_by was (texts_of words)) (paths_in first) (up_to_bad was (paths_in rest)) reads now parts so_far
  where
    first : List (List ℕ)
    first = texts_of (take i words)

    rest : List (List ℕ)
    rest = texts_of (drop i words)

    parts : needed_by was (texts_of words) ≡ paths_in first ++ up_to_bad was (paths_in rest)
    parts =
        ap (λ (ws : List (String Z)). needed_by was (texts_of ws)) (sym (take-append-drop i words))
        ∙ ap (needed_by was) (map-append (λ w. string_bytes w) (take i words) (drop i words))
        ∙ ap (up_to_bad was) (filter_map-append args_path first rest)
        ∙ sound (paths_in rest)

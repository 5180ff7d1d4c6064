-- Requests that were gathered from notes, each once, and joined.
use Rattle.std.proofs.Common.{◌≡◌, true, List, [], ◌∷◌, ◌++◌, map, refl, ap, ap₂, sym, ◌∙◌, append-nil, append_assoc}
use Rattle.std.specs.List.{AllZip, list_all}
use Rattle.std.proofs.lemmas.Bool.{and_from}
use Rattle.std.proofs.lemmas.List.Folds.{list_all-append}
use Rattle.policy_args.specs.declared.requests.Asked.{Asked}
use Rattle.policy_suggest.specs.AskedBy.{asked_by}
use Rattle.policy_suggest.specs.Needs.{asked_in_notes, listed, once, with_requests}
use Rattle.policy_suggest.specs.Suggest.{is_asked}
use Rattle.policy_suggest.proofs.Kept.{with-append, with-once}
use Rattle.policy_view.specs.Notes.{Note}
use Rattle.recording.specs.Seen.{recording_seen}
use Rattle.recording.specs.declared.Recording.{Recording}
use Rattle.replay.specs.PlayedNotes.{notes_under}
use Rattle.suggestion.specs.Requests.{joined_on, were_gathered}
use Rattle.suggestion.specs.Suggestion.{all_asked, asked_in, filter_alone}

-- ---- one note more

asked-push : (notes : List Note) (note : Note) → asked_in_notes (notes ++ note ∷ []) ≡ asked_in_notes notes ++ listed (asked_by note)
asked-push [] note = append-nil (listed (asked_by note))
asked-push (n ∷ notes) note = ap (λ t. listed (asked_by n) ++ t) (asked-push notes note) ∙ sym (append_assoc (listed (asked_by n)) (asked_in_notes notes) (listed (asked_by note)))

all-both : (xs ys : List Asked) → list_all is_asked xs ≡ true → list_all is_asked ys ≡ true → list_all is_asked (xs ++ ys) ≡ true
all-both xs ys first second = list_all-append is_asked xs ys ∙ and_from (list_all is_asked xs) (list_all is_asked ys) first second

pub gathered-more : (notes : List Note) (note : Note) (old new : List Asked) → were_gathered notes old → new ≡ with_requests old (listed (asked_by note)) → list_all is_asked (listed (asked_by note)) ≡ true → were_gathered (notes ++ note ∷ []) new
gathered-more notes note old new so_far added grammar = (
  added ∙ ap (λ kept. with_requests kept (listed (asked_by note))) so_far.0
      ∙ sym (with-append [] (asked_in_notes notes) (listed (asked_by note))) ∙ ap once (sym (asked-push notes note)),
  ap (list_all is_asked) (asked-push notes note) ∙ all-both (asked_in_notes notes) (listed (asked_by note)) so_far.1 grammar,
)

-- ---- recordings

abbrev notes_of : Recording → List Note
notes_of recording = notes_under filter_alone (recording_seen recording)

abbrev pub AreGathered : List Recording → List (List Asked) → Type 0
AreGathered recordings all = AllZip (λ recording requests. were_gathered (notes_of recording) requests) recordings all

joined-on : (kept : List Asked) (recordings : List Recording) (all : List (List Asked)) → AreGathered recordings all → joined_on kept all ≡ with_requests kept (all_asked (map recording_seen recordings))
joined-on kept [] [] zipped = refl
joined-on kept [] (_ ∷ _) zipped = elim zipped [ ]
joined-on kept (_ ∷ _) [] zipped = elim zipped [ ]
joined-on kept (recording ∷ recordings) (requests ∷ all) (here, rest) =
    joined-on (with_requests kept requests) recordings all rest
    ∙ ap (λ ks. with_requests ks (all_asked (map recording_seen recordings))) (ap (with_requests kept) here.0 ∙ with-once kept (asked_in (recording_seen recording)))
    ∙ sym (with-append kept (asked_in (recording_seen recording)) (all_asked (map recording_seen recordings)))

pub joined-all : (recordings : List Recording) (all : List (List Asked)) → AreGathered recordings all → joined_on [] all ≡ once (all_asked (map recording_seen recordings))
joined-all recordings all zipped = joined-on [] recordings all zipped

pub all-grammar : (recordings : List Recording) (all : List (List Asked)) → AreGathered recordings all → list_all is_asked (all_asked (map recording_seen recordings)) ≡ true
all-grammar [] [] zipped = refl
all-grammar [] (_ ∷ _) zipped = elim zipped [ ]
all-grammar (_ ∷ _) [] zipped = elim zipped [ ]
all-grammar (recording ∷ recordings) (requests ∷ all) (here, rest) =
    all-both (asked_in (recording_seen recording)) (all_asked (map recording_seen recordings)) here.1 (all-grammar recordings all rest)

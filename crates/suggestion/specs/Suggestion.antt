-- The policy file that is suggested for recordings.
use Rattle.std.specs.Prelude.{List, [], ◌∷◌, ◌++◌, codes, flat_map}
use Rattle.dbus_names.specs.Texts.{Text}
use Rattle.policy_args.specs.Policy.{Policy, entry_word, policy_of}
use Rattle.policy_args.specs.Words.{PolicyOptions}
use Rattle.policy_args.specs.declared.entry.Entry.{Entry}
use Rattle.policy_args.specs.declared.requests.Asked.{Asked}
use Rattle.policy_suggest.specs.Needs.{asked_in_notes}
use Rattle.policy_suggest.specs.Suggest.{filtered, suggested}
use Rattle.recording.specs.Recording.{Recording}
use Rattle.replay.specs.PlayedNotes.{notes_under}

-- ---- what recordings ask

-- the options of `--filter` alone
abbrev pub filter_alone : PolicyOptions
filter_alone = filtered (policy_of [])

abbrev pub asked_in : Recording → List Asked
asked_in recording = asked_in_notes (notes_under filter_alone recording)

-- the requests of the client's messages, whatever is decided on them
abbrev pub all_asked : List Recording → List Asked
all_asked recordings = flat_map asked_in recordings

-- the least policy that permits them
abbrev pub policy_for : List Recording → Policy
policy_for recordings = suggested (all_asked recordings)

-- ---- the file

-- a word of a policy file ends with NUL
abbrev pub file_word : Text → Text
file_word word = word ++ 0 ∷ []

abbrev pub entry_words : List Entry → Text
entry_words entries = flat_map (λ e. file_word (entry_word e)) entries

abbrev pub file_of : Policy → Text
file_of policy = file_word (codes "--filter") ++ entry_words policy.entries

-- the policy file that is suggested for recordings
unfoldable pub suggestion_of : List Recording → Text
suggestion_of recordings = file_of (policy_for recordings)

-- What is explained of a message of a recording.
use Rattle.std.specs.Prelude.{ℕ, zero, suc, Bool, true, List, [], ◌++◌, Option, None, option_map, slice_get, unwrap_or}
use Rattle.explain_log.specs.Lines.{log_line, entry_line}
use Rattle.policy_args.specs.Policy.{Policy}
use Rattle.policy_args.specs.Words.{PolicyOptions}
use Rattle.policy_view.specs.Notes.{Note, notes}
use Rattle.recording.specs.Recording.{Recording}
use Rattle.replay_output.specs.Output.{history_of}

-- the options, with a log asked for or not
abbrev pub noting_as : Bool → PolicyOptions → PolicyOptions
noting_as noting options = record options { log = noting }

abbrev pub with_log : PolicyOptions → PolicyOptions
with_log options = noting_as true options

-- the note of a number, from 1
abbrev pub note_at : List Note → ℕ → Option Note
note_at notes zero = None
note_at notes (suc n) = slice_get notes n

-- the log line of a note, and after it the line of the entry on which its decision rests, if there is one
abbrev pub explanation : Policy → Note → List ℕ
explanation policy note = log_line 1 note ++ unwrap_or (entry_line policy note) []

-- The explanation of the recording's message of a number, from 1; none if no message has the number. It doesn't depend
-- on whether the options ask for a log. Without the filter a recording has no messages.
unfoldable pub explained : PolicyOptions → Recording → ℕ → Option (List ℕ)
explained options recording number =
    option_map (explanation options.policy) (note_at (notes options.policy (history_of (with_log options) recording)) number)

-- The summary of a sample: how many messages its session has, what becomes of them, and how many bytes are sent to each
-- side.
use Rattle.std.specs.Prelude.{ℕ, Bool, true, false, List, [], ◌∷◌, length, count_by, codes, decimal}
use Rattle.dbus_names.specs.Texts.{Text}
use Rattle.policy_args.specs.Policy.{Policy, policy_of}
use Rattle.policy_args.specs.Words.{PolicyOptions}
use Rattle.policy_args.specs.declared.entry.Grant.TheVariants.{Talk as to_talk}
use Rattle.explain_log.specs.Lines.{joined}
use Rattle.policy_view.specs.Notes.{Note, notes}
use Rattle.policy_view.specs.Outputs.{bus_bytes, client_bytes}
use Rattle.policy_view.specs.Past.{History}
use Rattle.policy_view.specs.declared.Decision.{Decision}
use Rattle.policy_view.specs.declared.Decision.TheVariants.{Judged, Shown}
use Rattle.policy_view.specs.declared.Verdict.TheVariants.{Pass, Ping}
use Rattle.policy_view.specs.declared.Showing.TheVariants.{Whole, Reply, Instead, Hide}
use Rattle.replay_output.specs.Explained.{with_log}
use Rattle.replay_output.specs.Output.{history_of}
use Rattle.sample.specs.Sample.{sample}
use Rattle.sample.specs.declared.counts.Counts.{Counts}

-- ---- the policy

-- those of the words --filter and --talk=org.sample.A
abbrev pub sample_options : PolicyOptions
sample_options = record {
  filter = true;
  log = false;
  policy = policy_of (record { pattern = record { name = codes "org.sample.A"; exact = true }; grant = to_talk } ∷ []);
}

-- the history of a sample under its options, in which each message is noted
abbrev pub sample_history : ℕ → ℕ → History
sample_history n seed = history_of (with_log sample_options) (sample n seed)

-- ---- what becomes of a message; a list of names that is cut is none of these

abbrev pub is_passed : Decision → Bool
is_passed (Judged Pass) = true
is_passed _ = false

-- a ping goes in its place
abbrev pub is_pinged : Decision → Bool
is_pinged (Judged (Ping what reason)) = true
is_pinged _ = false

-- it is shown, as it is or as an answer
abbrev pub is_shown : Decision → Bool
is_shown (Shown Whole) = true
is_shown (Shown (Reply serial)) = true
is_shown _ = false

-- another answer is shown in its place
abbrev pub is_instead : Decision → Bool
is_instead (Shown (Instead order reply what)) = true
is_instead _ = false

abbrev pub is_hidden : Decision → Bool
is_hidden (Shown (Hide reason)) = true
is_hidden _ = false

-- ---- the counts

-- of the notes of all messages, and of all bytes for the bus and for the client
abbrev pub counts_of : List Note → List ℕ → List ℕ → Counts
counts_of notes to_bus to_client = record {
  items = length notes;
  passed = count_by (λ note. is_passed note.decision) notes;
  pings = count_by (λ note. is_pinged note.decision) notes;
  shown = count_by (λ note. is_shown note.decision) notes;
  instead = count_by (λ note. is_instead note.decision) notes;
  hidden = count_by (λ note. is_hidden note.decision) notes;
  to_bus = length to_bus;
  to_client = length to_client;
}

abbrev pub counts_in : Policy → History → Counts
counts_in policy items = counts_of (notes policy items) (bus_bytes policy items) (client_bytes policy items)

-- ---- the line

abbrev pub line_of : Counts → Text
line_of c = joined (codes "items") (
    decimal c.items
    ∷ codes "passed" ∷ decimal c.passed
    ∷ codes "pings" ∷ decimal c.pings
    ∷ codes "shown" ∷ decimal c.shown
    ∷ codes "instead" ∷ decimal c.instead
    ∷ codes "hidden" ∷ decimal c.hidden
    ∷ codes "to-bus" ∷ decimal c.to_bus
    ∷ codes "to-client" ∷ decimal c.to_client ∷ [])

unfoldable pub summary_of : Policy → History → Text
summary_of policy items = line_of (counts_in policy items)

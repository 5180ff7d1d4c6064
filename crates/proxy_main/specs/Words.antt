-- The words of the command line, if they name a tool.
--
--     replay POLICY RECORDING       plays the recording of one file under the policy of another
--     explain POLICY RECORDING N    says what was decided on message N of the recording, from 1, and by which entry
--     twin POLICY A B               says whether recordings A and B are the same to the policy, or where they differ
--     sample N SEED                 plays a sample of N draws from a seed, and sums it up
--     audit POLICY RECORDING..      says what the policy denies of 1 to 16 recordings, and which entries none names
--     within A B                    says whether the policy A permits nothing that the policy B doesn't permit
--     suggest RECORDING..           writes the least policy that permits what is asked in 1 to 16 recordings
--     show FILE                     writes the text of the message that the file holds
--     compose FILE                  writes the message whose text the file holds
--     session RECORDING N           writes session N of the recording, as a recording of its own
--     sessions RECORDING            lists the sessions of the recording
--     --help                        writes what the program can do
--     --version                     writes its version
--
-- The words of a tool are those that its command takes. POLICY, RECORDING, A, B and FILE are paths. Each number is
-- decimal, in digits alone and with no zero in front of others: the N of a sample is at most 100,000, and any other
-- number is below 2^64. Words of any other form are none of a tool's.
use Rattle.std.specs.Prelude.{ℕ, ◌-◌, ◌^◌, ◌||◌, nat_le, Bool, false, List, [], ◌∷◌, Option, Some, None, option_map, codes, bytes_eq, if◌then◌else◌}
use Rattle.policy_args.specs.ProxyLine.{number_of}
pub use Rattle.process_streams.specs.Faults.{is_tool_name}
use Rattle.tool_words.specs.Tools.{taken, taken_with, replay_places, explain_places, twin_places, sample_places, within_places, audit_places, suggest_places, show_places, compose_places, session_places, sessions_places, more_recordings}

pub data Command : Type 0 where
  -- the paths of the policy file and of the recording
  Replay : List ℕ → List ℕ → Command
  -- the paths of a policy file and of a recording, and the number of a message
  Explain : List ℕ → List ℕ → ℕ → Command
  -- the paths of the policy file and of both recordings
  Twin : List ℕ → List ℕ → List ℕ → Command
  -- how many draws, and the seed
  Sample : ℕ → ℕ → Command
  -- the paths of the policy file and of the recordings
  Audit : List ℕ → List (List ℕ) → Command
  -- the paths of the policy file that is to be within the other, and of the other
  Within : List ℕ → List ℕ → Command
  -- the paths of the recordings
  Suggest : List (List ℕ) → Command
  -- the path of the file of a message
  Show : List ℕ → Command
  -- the path of the file of a message's text
  Compose : List ℕ → Command
  -- the path of a recording, and the number of a session
  Session : List ℕ → ℕ → Command
  -- the path of a recording
  ListSessions : List ℕ → Command
  -- what the program can do
  Help : Command
  -- its version
  Version : Command

-- ---- numbers

abbrev pub within : ℕ → Option ℕ → Option ℕ
within most None = None
within most (Some n) = if nat_le n most then Some n else None

-- a decimal number without leading zeros that is so much at most
abbrev pub number_within : ℕ → List ℕ → Option ℕ
number_within most text = within most (number_of text)

abbrev pub greatest : ℕ
greatest = 2 ^ 64 - 1

abbrev pub most_draws : ℕ
most_draws = 100000

-- ---- commands, by the words that a tool's command takes

abbrev pub replay_of : Option (List (List ℕ)) → Option Command
replay_of (Some (policy ∷ recording ∷ [])) = Some (Replay policy recording)
replay_of taken = None

abbrev pub explain_of : Option (List (List ℕ)) → Option Command
explain_of (Some (policy ∷ recording ∷ number ∷ [])) = option_map (Explain policy recording) (number_within greatest number)
explain_of taken = None

abbrev pub twin_of : Option (List (List ℕ)) → Option Command
twin_of (Some (policy ∷ one ∷ other ∷ [])) = Some (Twin policy one other)
twin_of taken = None

abbrev pub sample_by : Option ℕ → Option ℕ → Option Command
sample_by None seed = None
sample_by (Some n) None = None
sample_by (Some n) (Some seed) = Some (Sample n seed)

abbrev pub sample_of : Option (List (List ℕ)) → Option Command
sample_of (Some (n ∷ seed ∷ [])) = sample_by (number_within most_draws n) (number_within greatest seed)
sample_of taken = None

abbrev pub audit_of : Option (List (List ℕ)) → Option Command
audit_of (Some (policy ∷ recordings)) = Some (Audit policy recordings)
audit_of taken = None

abbrev pub suggest_of : Option (List (List ℕ)) → Option Command
suggest_of taken = option_map Suggest taken

abbrev pub show_of : Option (List (List ℕ)) → Option Command
show_of (Some (message ∷ [])) = Some (Show message)
show_of taken = None

abbrev pub compose_of : Option (List (List ℕ)) → Option Command
compose_of (Some (text ∷ [])) = Some (Compose text)
compose_of taken = None

abbrev pub session_of : Option (List (List ℕ)) → Option Command
session_of (Some (recording ∷ number ∷ [])) = option_map (Session recording) (number_within greatest number)
session_of taken = None

abbrev pub list_sessions_of : Option (List (List ℕ)) → Option Command
list_sessions_of (Some (recording ∷ [])) = Some (ListSessions recording)
list_sessions_of taken = None

abbrev pub within_of : Option (List (List ℕ)) → Option Command
within_of (Some (one ∷ other ∷ [])) = Some (Within one other)
within_of taken = None

-- a word that stands alone
abbrev pub text_of : List ℕ → Option Command
text_of word =
    if bytes_eq word (codes "--help") then Some Help
    else (if bytes_eq word (codes "--version") then Some Version else None)

abbrev pub alone_of : List (List ℕ) → Option Command
alone_of (word ∷ []) = text_of word
alone_of words = None

-- all words, by the first of them
abbrev pub named_by : List ℕ → List (List ℕ) → Option Command
named_by tool words =
    if bytes_eq tool (codes "replay") then replay_of (taken (codes "replay") replay_places words)
    else (if bytes_eq tool (codes "explain") then explain_of (taken (codes "explain") explain_places words)
    else (if bytes_eq tool (codes "twin") then twin_of (taken (codes "twin") twin_places words)
    else (if bytes_eq tool (codes "sample") then sample_of (taken (codes "sample") sample_places words)
    else (if bytes_eq tool (codes "audit") then audit_of (taken_with (codes "audit") audit_places more_recordings words)
    else (if bytes_eq tool (codes "within") then within_of (taken (codes "within") within_places words)
    else (if bytes_eq tool (codes "suggest") then suggest_of (taken_with (codes "suggest") suggest_places more_recordings words)
    else (if bytes_eq tool (codes "show") then show_of (taken (codes "show") show_places words)
    else (if bytes_eq tool (codes "compose") then compose_of (taken (codes "compose") compose_places words)
    else (if bytes_eq tool (codes "session") then session_of (taken (codes "session") session_places words)
    else (if bytes_eq tool (codes "sessions") then list_sessions_of (taken (codes "sessions") sessions_places words)
    else alone_of words))))))))))

-- the command that the words name, if they name one
abbrev pub reading : List (List ℕ) → Option Command
reading [] = None
reading (tool ∷ words) = named_by tool (tool ∷ words)

abbrev pub asks_alone : List (List ℕ) → Bool
asks_alone (word ∷ []) = bytes_eq word (codes "--help") || bytes_eq word (codes "--version")
asks_alone words = false

-- The words name a tool where the first of them does, or where `--help` or `--version` is the only one. Any others are
-- a proxy line.
abbrev pub names_tool : List (List ℕ) → Bool
names_tool [] = false
names_tool (word ∷ words) = is_tool_name word || asks_alone (word ∷ words)

-- What contracts see of words that were read.
use Rattle.std.specs.Prelude.{ℕ, ◌≤◌, nat_le, ◌&&◌, List, map, Option, Some, None, if◌then◌else◌}
use Rattle.std.specs.Char.{is_ascii_digit}
use Rattle.std.specs.List.{list_all}
use Rattle.policy_args.specs.ProxyLine.{digits_worth}
use Rattle.proxy_main.specs.declared.words.CommandWords.{CommandWords}
use Rattle.proxy_main.specs.declared.words.CommandWords.TheVariants as words
use Rattle.proxy_main.specs.Words.{Command, Replay, Explain, Twin, Sample, Audit, Within, Suggest, Show, Compose, Session, ListSessions, Help, Version, most_draws}

-- the command that they name
abbrev pub command_of : CommandWords → Command
command_of (words.Replay policy recording) = Replay policy.now recording.now
command_of (words.Explain policy recording number) = Explain policy.now recording.now number
command_of (words.Twin policy one other) = Twin policy.now one.now other.now
command_of (words.Sample n seed) = Sample n seed
command_of (words.Audit policy recordings) = Audit policy.now (map (λ path. path.now) recordings.items)
command_of (words.Within one other) = Within one.now other.now
command_of (words.Suggest recordings) = Suggest (map (λ path. path.now) recordings.items)
command_of (words.Show message) = Show message.now
command_of (words.Compose text) = Compose text.now
command_of (words.Session recording number) = Session recording.now number
command_of (words.ListSessions recording) = ListSessions recording.now
command_of words.Help = Help
command_of words.Version = Version

-- a sample has no more draws than it may have
abbrev pub HasFewDraws : CommandWords → Type 0
HasFewDraws (words.Replay policy recording) = Unit {0}
HasFewDraws (words.Explain policy recording number) = Unit {0}
HasFewDraws (words.Twin policy one other) = Unit {0}
HasFewDraws (words.Sample n seed) = n ≤ most_draws
HasFewDraws (words.Audit policy recordings) = Unit {0}
HasFewDraws (words.Within one other) = Unit {0}
HasFewDraws (words.Suggest recordings) = Unit {0}
HasFewDraws (words.Show message) = Unit {0}
HasFewDraws (words.Compose text) = Unit {0}
HasFewDraws (words.Session recording number) = Unit {0}
HasFewDraws (words.ListSessions recording) = Unit {0}
HasFewDraws words.Help = Unit {0}
HasFewDraws words.Version = Unit {0}

-- what digits are worth, where that is so much at most
abbrev pub worth_within : ℕ → List ℕ → Option ℕ
worth_within most digits = if list_all is_ascii_digit digits && nat_le (digits_worth 0 digits) most then Some (digits_worth 0 digits) else None

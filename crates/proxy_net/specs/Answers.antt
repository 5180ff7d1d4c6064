-- What a net answered, among the calls of its system.
use Rattle.std.specs.Prelude.{ℕ, ◌≡◌, List, [], ◌∷◌, ◌++◌, Option, Some}
use Rattle.std.specs.Option.{option_map}
use Rattle.link_traits.specs.Entries.{Entry, ready, shut}
use Rattle.link_traits.specs.Journals.{Journal, accepts, listens}
use Rattle.link_traits.specs.Answers.{listen_entry, accept_entry, connect_entry, read_entry, write_entry}
use Rattle.proxy_net.specs.declared.answers.Answer.{Answer}
use Rattle.proxy_net.specs.declared.answers.Answer.TheVariants.{Listen, Wait, Accept, Connect, Read, Write, Shut}
use Rattle.proxy_net.specs.SystemCalls.{SystemCall, bind, await_clients, accept, connect, watch, read, write, close, wait, identify, remove, open_starter, notify_starter, answered}

-- the entry of an answer. A listen and a connect have their path, a read what its buffer holds, and a write its piece.
abbrev pub entry_of : Answer → List ℕ → Entry
entry_of (Listen answer) path = listen_entry path answer
entry_of (Wait answer) bytes = ready answer
entry_of (Accept listener answer) bytes = accept_entry listener answer
entry_of (Connect session answer) path = connect_entry session path answer
entry_of (Read link answer) into = read_entry link into answer
entry_of (Write link answer) piece = write_entry link piece answer
entry_of (Shut link) bytes = shut link

-- the net's answer that one entry of a system's journal is
abbrev pub answers_by : SystemCall → Journal
answers_by (answered entry) = entry ∷ []
answers_by (bind number path fault) = []
answers_by (await_clients number fault) = []
answers_by (accept listener number fault) = []
answers_by (connect number path fault) = []
answers_by (watch number writable fault) = []
answers_by (read number answer) = []
answers_by (write number answer) = []
answers_by (close number) = []
answers_by (wait reports nanos fault) = []
answers_by (identify path found) = []
answers_by (remove path) = []
answers_by (open_starter descriptor fault) = []
answers_by (notify_starter fault) = []

-- the journal of the net over a system, the newest first
abbrev pub answers_in : List SystemCall → Journal
answers_in [] = []
answers_in (call ∷ before) = answers_by call ++ answers_in before

abbrev pub net_journal : Option (List SystemCall) → Option Journal
net_journal calls = option_map answers_in calls

-- if the journal is known, the net's answers in it made this number of listeners and of sessions
pub record IsCounted (calls : Option (List SystemCall)) (listeners sessions : ℕ) : Type 0 where
  pub told : (before : List SystemCall) → calls ≡ Some before → (listeners ≡ listens (answers_in before)) × (sessions ≡ accepts (answers_in before))

-- if the journal is known, no net answered anything in it yet
pub record IsUnanswered (calls : Option (List SystemCall)) : Type 0 where
  pub told : (before : List SystemCall) → calls ≡ Some before → answers_in before ≡ []

-- What contracts see of a proxy line, of one that is being read, and of its digits.
use Rattle.std.specs.Prelude.{ℕ, Bool, ◌&&◌, nat_le, List, [], ◌∷◌, ◌++◌, map, Option, Some, None, option_map, String, string_bytes, if◌then◌else◌}
use Rattle.std.specs.Char.{is_ascii_digit}
use Rattle.std.specs.List.{list_all}
use Rattle.policy_args.specs.declared.line.Block.{Block}
use Rattle.policy_args.specs.declared.line.ProxyLine.{ProxyLine}
use Rattle.policy_args.specs.ProxyLine.{BlockValue, LineValue, SoFar, digits_worth}
use Rattle.policy_args.specs.Seen.{options_seen}
use Rattle.policy_args.specs.Words.{PolicyOptions}

abbrev pub block_seen : Block → BlockValue
block_seen b = record { address = string_bytes b.address; path = string_bytes b.path; options = options_seen b.options }

abbrev pub line_seen : ProxyLine → LineValue
line_seen l = record {
  blocks = map block_seen l.blocks.items;
  sessions = l.sessions;
  record_to = option_map (λ path. string_bytes path) l.record_to;
  starter = l.starter;
  replaces = l.replaces;
}

abbrev pub last_seen : Option Block → List BlockValue
last_seen None = []
last_seen (Some b) = block_seen b ∷ []

abbrev pub blocks_seen : List Block → Option Block → List BlockValue
blocks_seen blocks last = map block_seen blocks ++ last_seen last

-- the model of a line that is being read, without its blocks
abbrev pub rest_seen : {Z : Type 0} → ℕ → Option (String Z) → Option ℕ → Bool → LineValue
rest_seen sessions record_to starter replaces = record {
  blocks = [];
  sessions = sessions;
  record_to = option_map (λ path. string_bytes path) record_to;
  starter = starter;
  replaces = replaces;
}

abbrev pub so_far : {Z : Type 0} → List Block → Option Block → LineValue → PolicyOptions → Option (String Z) → SoFar
so_far blocks last rest first pending = record {
  line = record rest { blocks = blocks_seen blocks last };
  first = first;
  pending = option_map (λ p. string_bytes p) pending;
}

-- with one more block
abbrev pub with_block : BlockValue → SoFar → SoFar
with_block b s = record s { line = record (s.line) { blocks = s.line.blocks ++ b ∷ [] }; pending = None }

-- the value of digits, if it is at most this number
abbrev pub worth_of : ℕ → List ℕ → Option ℕ
worth_of most digits = if list_all is_ascii_digit digits && nat_le (digits_worth 0 digits) most then Some (digits_worth 0 digits) else None

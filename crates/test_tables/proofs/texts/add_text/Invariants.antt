use Rattle.std.proofs.Common.{◌≡◌, ◌++◌, take, string_bytes}
use Rattle.test_tables.specs.Texts.{text_of_bytes}
use Rattle.test_tables.proofs.texts.add_text.Given as goal

abbrev pub invariant-loop-byte : goal.invariant-loop-byte
invariant-loop-byte l = string_bytes l.told ≡ string_bytes l.fn.told ++ text_of_bytes (take l.byte-index l.bytes)

use Rattle.std.proofs.Common.{◌≡◌, ◌++◌, length}
use Rattle.test_tables.specs.Texts.{bytes_of}
use Rattle.test_tables.proofs.texts.plain.Given as goal

abbrev pub invariant-loop-byte : goal.invariant-loop-byte
invariant-loop-byte l = l.bytes.items ++ bytes_of l.rest ≡ bytes_of l.text

abbrev pub decreases-loop-byte : goal.decreases-loop-byte
decreases-loop-byte l = length l.rest

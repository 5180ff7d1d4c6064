use Rattle.std.proofs.Common.{◌≡◌, ◌+◌, length}
use Rattle.memory_links.specs.Scripts.{ends_next}
use Rattle.memory_links.proofs.scripts.Script.next_on.Given as goal

abbrev pub invariant-loop-rest : goal.invariant-loop-rest
invariant-loop-rest l = record {
  place : l.place + length l.rest ≡ length l.self.steps.items;
  ends : ends_next l.link l.rest ≡ ends_next l.link l.self.steps.items;
}

abbrev pub decreases-loop-rest : goal.decreases-loop-rest
decreases-loop-rest l = length l.rest

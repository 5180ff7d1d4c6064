use Rattle.std.proofs.Common.{◌≡◌, ℕ, ◌<◌, true, slice_index}
use Rattle.sasl_watch.specs.Fronts.{is_plain}
use Rattle.sasl_watch.proofs.front.plain_len.Given as goal

abbrev pub invariant-loop-at : goal.invariant-loop-at
invariant-loop-at l = (k : ℕ) → k < l.at → is_plain (slice_index l.left k) ≡ true

use Rattle.std.proofs.Common.{◌≡◌, ◌≢◌, ◌≤◌, ◌-◌, ℕ, List, length, take}
use Rattle.link_traits.specs.Told.{added}
use Rattle.record_net.proofs.record_file.append_all.Given as goal

abbrev pub invariant-loop-done : goal.invariant-loop-done
invariant-loop-done g l = record {
  within : l.done ≤ length l.bytes;
  told : (g.F.Files.view l.files).told l.path ≡ added (take l.done l.bytes) ((g.F.Files.view l.fn.files).told l.path);
  others : (p : List ℕ) → p ≢ l.path → (g.F.Files.view l.files).told p ≡ (g.F.Files.view l.fn.files).told p;
  count : (g.F.Files.view l.fn.files).faults ≤ (g.F.Files.view l.files).faults;
  unread : (g.F.Files.view l.files).reads ≡ (g.F.Files.view l.fn.files).reads;
}

abbrev pub decreases-loop-done : goal.decreases-loop-done
decreases-loop-done g l = length l.bytes - l.done

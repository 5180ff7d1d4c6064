use Rattle.std.proofs.Common.{string_bytes}
use Rattle.record_net.specs.Starts.{start_of}
use Rattle.record_tests.proofs.callers.record_wait.Given as goal

abbrev pub ghosts-wait_tracked : goal.ghosts-wait_tracked
ghosts-wait_tracked g a = record {
  start = start_of (g.N.Net.view a.recorder.net.now).journal
      (g.F.Files.view a.recorder.files.now)
      (string_bytes a.recorder.file.now.path);
  net_name = a.recorder.net.ghost_name;
  files_name = a.recorder.files.ghost_name;
}

use Rattle.std.proofs.Common.{string_bytes}
use Rattle.record_net.specs.Starts.{start_of}
use Rattle.recorded_run.proofs.serving.serve_from_start.Given as goal

abbrev pub ghosts-serve_over : goal.ghosts-serve_over
ghosts-serve_over g a = record {
  start = start_of (g.N.Net.view a.recorder.net.now).journal
      (g.F.Files.view a.recorder.files.now)
      (string_bytes a.recorder.file.now.path);
  net_name = a.recorder.net.ghost_name;
  files_name = a.recorder.files.ghost_name;
}

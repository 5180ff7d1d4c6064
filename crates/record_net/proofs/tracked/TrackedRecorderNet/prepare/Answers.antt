use Rattle.std.proofs.Common.{ap, ◌∙◌, string_bytes}
use Rattle.record_net.proofs.Recordings.{stays}
use Rattle.record_net.proofs.tracked.TrackedRecorderNet.prepare.Goals as goal

pub invariant_of-self : goal.invariant_of-self
invariant_of-self g c = record {
  path = ap (λ f. string_bytes f.now.path) c.prepare.ensures.file ∙ c.args.self.now.path;
  net = c.prepare.ensures.net_name ∙ c.args.self.now.net;
  files = ap (λ f. f.ghost_name) c.prepare.ensures.files ∙ c.args.self.now.files;
  recording = rw (c.prepare.ensures.files, c.prepare.ensures.file) (stays g.K.RecordingStart.start (g.N.Net.view c.args.self.now.recorder.net.now) (g.N.Net.view c.prepare.new.self.net.now) _ c.args.self.now.recording c.prepare.ensures.told);
}

use Rattle.std.proofs.Common.{ap, ◌∙◌, refl, string_bytes}
use Rattle.link_traits.specs.Entries.{ready}
use Rattle.record_net.proofs.Recordings.{goes_on_silently}
use Rattle.record_net.proofs.tracked.TrackedRecorderNet.wait.Goals as goal

pub invariant_of-self : goal.invariant_of-self
invariant_of-self g c = record {
  path = ap (λ f. string_bytes f.now.path) c.wait.ensures.file ∙ c.args.self.now.path;
  net = c.wait.ensures.net_name ∙ c.args.self.now.net;
  files = ap (λ f. f.ghost_name) c.wait.ensures.files ∙ c.args.self.now.files;
  recording = rw (c.wait.ensures.files, c.wait.ensures.file) (goes_on_silently g.K.RecordingStart.start (g.N.Net.view c.args.self.now.recorder.net.now) (g.N.Net.view c.wait.new.self.net.now) _ (ready c.wait.result) c.args.self.now.recording c.wait.ensures.told refl (λ before told. refl));
}

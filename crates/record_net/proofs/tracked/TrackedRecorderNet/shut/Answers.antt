use Rattle.std.proofs.Common.{ap, ◌∙◌, refl, string_bytes}
use Rattle.link_traits.specs.Entries.{shut}
use Rattle.record_net.proofs.Recordings.{goes_on_silently}
use Rattle.record_net.proofs.tracked.TrackedRecorderNet.shut.Goals as goal

pub invariant_of-self : goal.invariant_of-self
invariant_of-self g c = record {
  path = ap (λ f. string_bytes f.now.path) c.shut.ensures.file ∙ c.args.self.now.path;
  net = c.shut.ensures.net_name ∙ c.args.self.now.net;
  files = ap (λ f. f.ghost_name) c.shut.ensures.files ∙ c.args.self.now.files;
  recording = rw (c.shut.ensures.files, c.shut.ensures.file) (goes_on_silently g.K.RecordingStart.start (g.N.Net.view c.args.self.now.recorder.net.now) (g.N.Net.view c.shut.new.self.net.now) _ (shut c.args.link) c.args.self.now.recording c.shut.ensures.told refl (λ before told. refl));
}

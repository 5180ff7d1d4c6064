use Rattle.std.proofs.Common.{ap, ◌∙◌, string_bytes}
use Rattle.link_traits.specs.Answers.{listen_entry}
use Rattle.record_net.proofs.Fits.{listen_fits}
use Rattle.record_net.proofs.Recordings.{goes_on_silently, silent_listen}
use Rattle.record_net.proofs.tracked.TrackedRecorderNet.listen.Goals as goal

pub invariant_of-self : goal.invariant_of-self
invariant_of-self g c = record {
  path = ap (λ f. string_bytes f.now.path) c.listen.ensures.file ∙ c.args.self.now.path;
  net = c.listen.ensures.net_name ∙ c.args.self.now.net;
  files = ap (λ f. f.ghost_name) c.listen.ensures.files ∙ c.args.self.now.files;
  recording = rw (c.listen.ensures.files, c.listen.ensures.file) (goes_on_silently g.K.RecordingStart.start (g.N.Net.view c.args.self.now.recorder.net.now) (g.N.Net.view c.listen.new.self.net.now) _ (listen_entry c.args.path.now c.listen.result) c.args.self.now.recording c.listen.ensures.told (silent_listen c.args.path.now c.listen.result) (λ before told. listen_fits c.args.path.now c.listen.result));
}

use Rattle.std.proofs.Common.{ap, ◌∙◌, string_bytes}
use Rattle.link_traits.specs.Answers.{accept_entry}
use Rattle.record_net.proofs.Fits.{accept_fits}
use Rattle.record_net.proofs.Recordings.{goes_on_silently, silent_accept}
use Rattle.record_net.proofs.tracked.TrackedRecorderNet.accept.Goals as goal

pub invariant_of-self : goal.invariant_of-self
invariant_of-self g c = record {
  path = ap (λ f. string_bytes f.now.path) c.accept.ensures.file ∙ c.args.self.now.path;
  net = c.accept.ensures.net_name ∙ c.args.self.now.net;
  files = ap (λ f. f.ghost_name) c.accept.ensures.files ∙ c.args.self.now.files;
  recording = rw (c.accept.ensures.files, c.accept.ensures.file) (goes_on_silently g.K.RecordingStart.start (g.N.Net.view c.args.self.now.recorder.net.now) (g.N.Net.view c.accept.new.self.net.now) _ (accept_entry c.args.listener c.accept.result) c.args.self.now.recording c.accept.ensures.told (silent_accept c.args.listener c.accept.result) (accept_fits (g.N.Net.view c.args.self.now.recorder.net.now) c.args.listener c.accept.result c.accept.ensures.numbered));
}

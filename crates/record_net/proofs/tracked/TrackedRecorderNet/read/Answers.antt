use Rattle.std.proofs.Common.{◌∙◌}
use Rattle.link_traits.specs.Answers.{read_entry}
use Rattle.record_net.proofs.Fits.{read_fits}
use Rattle.record_net.proofs.Recordings.{goes_on_at}
use Rattle.record_net.proofs.tracked.TrackedRecorderNet.read.Goals as goal

pub invariant_of-self : goal.invariant_of-self
invariant_of-self g c = record {
  path = c.read.ensures.path ∙ c.args.self.now.path;
  net = c.read.ensures.net_name ∙ c.args.self.now.net;
  files = c.read.ensures.files_name ∙ c.args.self.now.files;
  recording = goes_on_at g.K.RecordingStart.start (g.N.Net.view c.args.self.now.recorder.net.now) (g.N.Net.view c.read.new.self.net.now) _ _ (read_entry c.args.link c.read.new.into c.read.result) _ c.args.self.now.recording c.read.ensures.told c.args.self.now.path c.read.ensures.puts (λ before told. read_fits c.args.link c.read.new.into c.read.result c.read.ensures.session c.read.ensures.limit);
}

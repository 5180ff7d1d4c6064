use Rattle.std.proofs.Common.{◌∙◌, arith}
use Rattle.link_traits.specs.Answers.{connect_entry}
use Rattle.record_net.proofs.Fits.{connect_fits}
use Rattle.record_net.proofs.Recordings.{goes_on_at}
use Rattle.record_net.proofs.tracked.TrackedRecorderNet.connect.Goals as goal

pub invariant_of-self : goal.invariant_of-self
invariant_of-self g c = record {
  path = c.connect.ensures.path ∙ c.args.self.now.path;
  net = c.connect.ensures.net_name ∙ c.args.self.now.net;
  files = c.connect.ensures.files_name ∙ c.args.self.now.files;
  recording = goes_on_at g.K.RecordingStart.start (g.N.Net.view c.args.self.now.recorder.net.now) (g.N.Net.view c.connect.new.self.net.now) _ _ (connect_entry c.args.session c.args.path.now c.connect.result) _ c.args.self.now.recording c.connect.ensures.told c.args.self.now.path c.connect.ensures.puts (λ before told. connect_fits c.args.session c.args.path.now c.connect.result (omega (arith, c.ranges.session)));
}

use Rattle.std.proofs.Common.{◌∙◌}
use Rattle.link_traits.specs.Answers.{write_entry}
use Rattle.record_net.proofs.Fits.{write_fits}
use Rattle.record_net.proofs.Recordings.{goes_on_at}
use Rattle.record_net.proofs.tracked.TrackedRecorderNet.write.Goals as goal

pub invariant_of-self : goal.invariant_of-self
invariant_of-self g c = record {
  path = c.write.ensures.path ∙ c.args.self.now.path;
  net = c.write.ensures.net_name ∙ c.args.self.now.net;
  files = c.write.ensures.files_name ∙ c.args.self.now.files;
  recording = goes_on_at g.K.RecordingStart.start (g.N.Net.view c.args.self.now.recorder.net.now) (g.N.Net.view c.write.new.self.net.now) _ _ (write_entry c.args.link c.args.piece.now c.write.result) _ c.args.self.now.recording c.write.ensures.told c.args.self.now.path c.write.ensures.puts (λ before told. write_fits c.args.link c.args.piece.now c.write.result c.write.ensures.session);
}

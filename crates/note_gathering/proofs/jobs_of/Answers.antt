use Rattle.std.proofs.Common.{refl}
use Rattle.note_gathering.proofs.Zips.{zip-next}
use Rattle.note_gathering.proofs.jobs_of.Goals as goal

pub loop-recording-preserved : goal.loop-recording-preserved
loop-recording-preserved g c =
    zip-next _ c.args.recordings.now c.loop-recording.recording-index c.recording-item.result c.loop-recording.jobs.items c.push.new.self.items _ c.loop-recording-test.true c.recording-item.is c.in_ok-push.ensures.items
    c.loop-recording.invariant (refl, refl, refl)

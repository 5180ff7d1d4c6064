use Rattle.std.proofs.Common.{◌++◌, [], ◌∷◌}
use Rattle.recording.specs.Recording.{Bytes}
use Rattle.recording.specs.declared.Side.TheVariants.{Client}
use Rattle.sample.proofs.Counting.{came}
use Rattle.sample.proofs.playing.Play.feed_client.Goals as goal

pub returns : goal.returns
returns c = λ events played.
    let policy = c.args.policy.now in
    let event = Bytes Client c.args.message.now in
    c.count_waiting.ensures policy (events ++ event ∷ [])
    (came policy events event c.args.self.now c.feed_client.new.self c.feed_client.ensures.light.mode (λ before taken stood. c.feed_client.ensures.stands before taken stood) played.counted)

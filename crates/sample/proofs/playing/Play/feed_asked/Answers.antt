use Rattle.std.proofs.Common.{◌++◌, ap, OnOk, subst}
use Rattle.sample.specs.Playing.{Played}
use Rattle.sample.proofs.Counting.{one_asked}
use Rattle.sample.proofs.playing.Play.feed_asked.Goals as goal

pub returns : goal.returns
returns c = λ events played.
    subst (λ es. OnOk c.feed_client.result (Played c.args.policy.now es c.feed_client.new.self))
    (ap (λ es. events ++ es) (one_asked c.args.made.now c.as_slice.result.now c.if-not-made.false c.as_slice.ensures))
    (c.feed_client.ensures events played)

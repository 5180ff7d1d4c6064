use Rattle.std.proofs.Common.{◌++◌, [], ◌∷◌, ap, ◌∙◌, OnOk, append_assoc, subst}
use Rattle.recording.specs.Recording.{Bytes}
use Rattle.recording.specs.declared.Side.TheVariants.{Bus}
use Rattle.sample.specs.Made.{asked_events}
use Rattle.sample.specs.Playing.{Played}
use Rattle.sample.proofs.playing.Play.feed_made.Goals as goal

pub returns : goal.returns
returns c = λ events played.
    let asked = asked_events c.args.made.now in
    subst (λ es. OnOk c.feed_bus.result (Played c.args.policy.now es c.feed_bus.new.self))
    (ap (λ bytes. (events ++ asked) ++ Bytes Bus bytes ∷ []) c.as_slice.ensures ∙ append_assoc events asked (Bytes Bus c.args.made.now.bus.items ∷ []))
    (c.feed_bus.ensures (events ++ asked) (c.in_ok-feed_asked.ensures events played))

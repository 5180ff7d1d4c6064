use Rattle.std.proofs.Common.{◌++◌, ap, sym, ◌∙◌, append_assoc, arith, subst}
use Rattle.policy_args.specs.Words.{PolicyOptions}
use Rattle.sample.specs.Made.{made_events, to_come}
use Rattle.sample.specs.Playing.{Played}
use Rattle.sample.specs.Sample.{opening, sample as sample_of}
use Rattle.sample.specs.Summary.{sample_options}
use Rattle.sample.proofs.Counting.{all_came, sample_events}
use Rattle.sample.proofs.playing.count_sample.Goals as goal

pub loop-draws-init : goal.loop-draws-init
loop-draws-init c = record {
  so_far = opening;
  played = subst (λ (o : PolicyOptions). Played o.policy opening c.feed_opening.new.self) c.in_ok-options.ensures (c.in_ok-feed_opening.ensures c.in_ok-play.ensures);
  split = sample_events c.args.n c.args.seed (to_come c.new-draws.result) c.new-draws.ensures.all;
  options = c.in_ok-options.ensures;
}

pub loop-draws-preserved : goal.loop-draws-preserved
loop-draws-preserved c =
    let inv = c.loop-draws.invariant in
    let made = made_events c.next.new.made in
    record {
      so_far = inv.so_far ++ made;
      played = subst (λ (o : PolicyOptions). Played o.policy (inv.so_far ++ made) c.feed_made.new.self) inv.options
          (c.in_ok-feed_made.ensures inv.so_far (subst (λ (o : PolicyOptions). Played o.policy inv.so_far c.loop-draws.play) (sym inv.options) inv.played));
      split = append_assoc inv.so_far made (to_come c.next.new.self) ∙ ap (λ events. inv.so_far ++ events) (sym c.in_ok-next.ensures.ok) ∙ inv.split;
      options = inv.options;
    }

pub returns : goal.returns
returns c =
    let inv = c.loop-draws.invariant in
    c.counted.ensures c.args.n c.args.seed
    (subst (λ events. Played sample_options.policy events c.loop-draws.play)
    (all_came inv.so_far (sample_of c.args.n c.args.seed).events c.loop-draws.draws.left _ _ _ _ (omega arith) inv.split) inv.played)

use Rattle.std.proofs.Common.{◌∙◌, ap, fold}
use Rattle.std.proofs.lemmas.Iterator.Consumers.{YieldsList-at, YieldsList-end}
use Rattle.std.proofs.lemmas.Iterator.Splits.{YieldsList-from_str_split}
use Rattle.policy_within.specs.Steps.{with_z}
use Rattle.policy_within.proofs.z_words.ZWords.add_parts.Goals as goal

pub returns : goal.returns
returns c =
    let whole = YieldsList-end (YieldsList-at c.into_iter-element-iterator.ensures.into_iter_gives
    (YieldsList-from_str_split c.args.separator c.args.text.now c.requires c.split-element-items.ensures.text c.split-element-items.ensures.has_more c.split-element-items.ensures.pattern))
    c.loop-element.yielded _ c.loop-element.yielded_by _ _ c.in-None.is c.next.ensures.steps in
    c.loop-element.invariant ∙ ap (fold with_z c.args.self.now) whole.0

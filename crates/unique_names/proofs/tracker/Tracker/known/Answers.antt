use Rattle.std.proofs.Common.{ap, sym, ◌∙◌}
use Rattle.std.specs.FinMap.{get}
use Rattle.byte_lists.proofs.TextMaps.{get_text}
use Rattle.unique_names.proofs.tracker.Tracker.known.Goals as goal

pub returns : goal.returns
returns c = c.get.ensures.value ∙ sym (get_text c.self.inside.ids.entries c.args.id.now) ∙ ap (λ ids. get ids c.args.id.now) c.self.view_is

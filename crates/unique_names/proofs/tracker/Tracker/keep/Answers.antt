use Rattle.std.proofs.Common.{ap₂, ◌∙◌, string_bytes}
use Rattle.std.specs.FinMap as map
use Rattle.std.proofs.lemmas.Map.Text.{btree_map_updates_text}
use Rattle.byte_lists.proofs.TextMaps.{text_given}
use Rattle.unique_names.proofs.tracker.Tracker.keep.Goals as goal

pub returns-clause-ok : goal.returns-clause-ok
returns-clause-ok c =
    text_given c.self.inside.ids c.insert.new.self (string_bytes c.in_ok-id.id) c.args.known
    (λ q. btree_map_updates_text (string_bytes c.in_ok-id.id) c.self.inside.ids c.insert.new.self _ c.in_ok-insert.ensures.updates q)
    ∙ ap₂ (λ ids id. map.insert ids id c.args.known) c.self.view_is c.in_ok-id.ensures.ok

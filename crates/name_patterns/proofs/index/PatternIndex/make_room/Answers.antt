use Rattle.std.proofs.Common.{rules, Some, ap, ◌∙◌}
use Rattle.std.proofs.lemmas.Map.Text.{hash_map_updates_text}
use Rattle.name_patterns.specs.PatternIndex.{HasRoom, kept_in}
use Rattle.name_patterns.proofs.PatternsAdded.{still-index}
use Rattle.name_patterns.proofs.index.PatternIndex.make_room.Goals as goal

pub returns-clause-room : goal.returns-clause-room
unfolding HasRoom
returns-clause-room c = search rules

pub returns-clause-same : goal.returns-clause-same
returns-clause-same c = λ added is.
    let old = c.add_name.new.self in
    let sets = hash_map_updates_text c.name-2.result.now old.by_name (c.get_mut.follows.lender c.reserve.new.self) (Some c.reserve.new.self) ((c.get_mut.follows.holds c.reserve.new.self).3 (search rules)) in
    still-index old (record { by_name = c.get_mut.follows.lender c.reserve.new.self }) c.name-2.result.now c.reserve.new.self sets
    (c.reserve.ensures.same ∙ ap kept_in c.in-Some.ensures.value) added (c.in_ok-add_name.ensures.same added is)

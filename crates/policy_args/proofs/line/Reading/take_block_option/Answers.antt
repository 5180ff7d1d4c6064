use Rattle.std.proofs.Common.{sym, ◌∙◌}
use Rattle.policy_args.specs.Reading.{rest_seen}
use Rattle.policy_args.specs.Seen.{first_seen}
use Rattle.policy_args.proofs.ReadingLine.{option-added}
use Rattle.policy_args.proofs.line.Reading.take_block_option.Goals as goal

pub returns-in-Some : goal.returns-in-Some
returns-in-Some c =
    option-added c.args.word.now c.self.inside.blocks.items c.self.inside.last (rest_seen c.self.inside.sessions c.self.inside.record_to c.self.inside.starter c.self.inside.replaces) (first_seen c.self.inside.first) c.self.inside.pending c.args.self.now c.in-Some.block _
    c.self.view_is (sym c.take.ensures.value ∙ c.in-Some.is) _ c.take-taken.ensures.exact

use Rattle.std.proofs.Common.{sym, ◌∙◌}
use Rattle.policy_args.specs.Reading.{rest_seen}
use Rattle.policy_args.specs.Seen.{first_seen}
use Rattle.policy_args.proofs.ReadingLine.{finished-there, is-none}
use Rattle.policy_args.proofs.line.Reading.finish.Goals as goal

pub returns-in_ok-push-in-Some : goal.returns-in_ok-push-in-Some
returns-in_ok-push-in-Some c =
    finished-there c.args.words c.self.inside.blocks.items c.push.new.self.items c.self.inside.last (rest_seen c.self.inside.sessions c.self.inside.record_to c.self.inside.starter c.self.inside.replaces) (first_seen c.self.inside.first) c.self.inside.pending c.args.self c.in-Some.last
    c.self.view_is (is-none c.self.inside.pending c.if-is_some.ensures) (sym c.take.ensures.value ∙ c.in-Some.is) c.in_ok-push-in-Some.ensures.items

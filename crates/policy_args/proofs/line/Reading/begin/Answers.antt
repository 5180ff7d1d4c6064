use Rattle.std.proofs.Common.{Option, None, ap, sym, ◌∙◌}
use Rattle.policy_args.specs.declared.line.Block.{Block}
use Rattle.policy_args.specs.ProxyLine.{LineValue, SoFar}
use Rattle.policy_args.specs.Reading.{blocks_seen, rest_seen}
use Rattle.policy_args.specs.Seen.{first_seen}
use Rattle.policy_args.proofs.ReadingLine.{begun-after}
use Rattle.policy_args.proofs.line.Reading.begin.Goals as goal

pub returns-in_ok-push : goal.returns-in_ok-push
returns-in_ok-push c =
    let r = c.self.inside in
    let rest : LineValue = rest_seen r.sessions r.record_to r.starter r.replaces in
    let seen : Option Block → SoFar = λ last. record { line = record rest { blocks = blocks_seen c.push.new.self.items last }; first = first_seen r.first; pending = None } in
    ap seen c.replace.ensures.after
    ∙ begun-after r.blocks.items c.push.new.self.items r.last rest (first_seen r.first) r.pending c.args.self.now c.args.block c.self.view_is
    c.in-Some.last (sym c.replace.ensures.value ∙ c.in-Some.is) c.in_ok-push.ensures.items

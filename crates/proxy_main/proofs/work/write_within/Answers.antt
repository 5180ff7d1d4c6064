use Rattle.proxy_main.proofs.Contained.{contained_result}
use Rattle.proxy_main.proofs.work.write_within.Goals as goal

pub returns-in-Ok-clause-done : goal.returns-in-Ok-clause-done
returns-in-Ok-clause-done g c =
    contained_result c.args.one.now c.args.other.now c.in-Ok.answer c.write_containment.result _ _ c.in-Ok.ensures.exact c.in-Ok.ensures.yes c.write_containment.ensures.code c.write_containment.ensures.lines

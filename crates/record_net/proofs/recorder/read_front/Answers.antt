use Rattle.std.proofs.Common.{rules}
use Rattle.record_net.specs.declared.TheConstants.{READ_LIMIT}
use Rattle.record_net.proofs.Putting.{rest_kept}
use Rattle.record_net.proofs.recorder.read_front.Goals as goal

pub returns-clause-rest : goal.returns-clause-rest
returns-clause-rest g c = rest_kept READ_LIMIT c.min-most.result c.read.new.into c.args.into.now (search rules) (search rules)

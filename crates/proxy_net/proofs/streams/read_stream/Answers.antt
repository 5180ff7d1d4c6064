use Rattle.std.proofs.Common.{inr, not, arith}
use Rattle.std.proofs.lemmas.Bool.Decides.{nat_tests}
use Rattle.std.specs.IoError.{error_kind}
use Rattle.proxy_net.proofs.Telling.{steps_weaker, steps_through}
use Rattle.proxy_net.proofs.Meaning.{read_told, read_again, stream_after, again_read}
use Rattle.proxy_net.proofs.streams.read_stream.Goals as goal

pub returns-in-Some-clause-told : goal.returns-in-Some-clause-told
returns-in-Some-clause-told g c =
    steps_through (λ first second p q. stream_after c.args.stream.now.number c.read.new.into c.in-Some.read first second p.0 q) c.loop-turn.invariant
    (read_told error_kind c.args.stream.now.number _ (not c.is_empty-has_room.result) (λ room. grind (arith, nat_tests, room, c.is_empty-has_room.ensures)) c.read.result c.in-Some.read c.read.ensures.told c.in-Some.ensures.meant)

pub returns-clause-told : goal.returns-clause-told
returns-clause-told g c = steps_weaker (λ calls p. inr (p.0, grind (arith, p.1))) c.loop-turn.invariant

pub loop-turn-preserved : goal.loop-turn-preserved
loop-turn-preserved g c =
    steps_through (λ first second p q. again_read c.args.stream.now.number c.loop-turn._turn first second p q) c.loop-turn.invariant
    (read_again error_kind c.args.stream.now.number _ _ c.read.result c.read.ensures.told c.in_default.ensures.meant)

use Rattle.std.proofs.Common.{ap, Err}
use Rattle.proxy_loop.proofs.Accepting.{connected_goes, unconnected_goes, refused_goes}
use Rattle.proxy_loop.proofs.accept.connect_new.Goals as goal

pub returns-in-Ok-clause-goes : goal.returns-in-Ok-clause-goes
returns-in-Ok-clause-goes g c =
    connected_goes c.args.running.now.number c.args.address.now c.args.running.now.bus.gone c.args.running.now.session (g.N.Net.view c.args.net.now) (g.N.Net.view c.connect.new.self)
    c.requires.open c.requires.runs c.in-Ok.ensures.told

pub returns-in-Err-Failed-clause-goes : goal.returns-in-Err-Failed-clause-goes
returns-in-Err-Failed-clause-goes g c =
    unconnected_goes c.args.running.now.number c.args.address.now c.args.running.now.session c.stop.new.self c.stop.result (g.N.Net.view c.args.net.now) (g.N.Net.view c.connect.new.self)
    (rw c.in-Err-Failed.field-0-is at c.in-Err-Failed.ensures.told) (c.in-Err-Failed.ensures.failed (ap (λ e. Err e) c.in-Err-Failed.field-0-is)) c.requires.runs
    (record { stands = c.stop.ensures.stands; answer = c.stop.ensures.answer; first = c.stop.ensures.first; last = c.stop.ensures.last })

pub returns-in-Err-Memory-clause-goes : goal.returns-in-Err-Memory-clause-goes
returns-in-Err-Memory-clause-goes g c =
    refused_goes c.args.running.now.number c.args.address.now c.args.running.now.bus.gone c.args.running.now.session c.stop-in-Err-Memory.new.self c.stop-in-Err-Memory.result
    (g.N.Net.view c.args.net.now) (g.N.Net.view c.connect.new.self) c.requires.open c.requires.runs
    (rw c.in-Err-Memory.field-0-is at c.in-Err-Memory.ensures.told)
    (record { stands = c.stop-in-Err-Memory.ensures.stands; answer = c.stop-in-Err-Memory.ensures.answer; first = c.stop-in-Err-Memory.ensures.first; last = c.stop-in-Err-Memory.ensures.last })

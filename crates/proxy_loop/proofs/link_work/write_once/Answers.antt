use Rattle.std.proofs.Common.{refl}
use Rattle.proxy_loop.proofs.Holding.{wrote_goes, unwritten_goes, failed_write_goes, queue_keeps, stop_write_keeps}
use Rattle.proxy_loop.proofs.link_work.write_once.Goals as goal

pub returns-in-Bytes-clause-goes : goal.returns-in-Bytes-clause-goes
returns-in-Bytes-clause-goes g c =
    wrote_goes c.args.link c.args.session.now c.took.new.session (g.N.Net.view c.args.net.now) (g.N.Net.view c.write-answer.new.self) c.in-Bytes.n
    c.queue.result.now c.queue.ensures.front (c.in-Bytes.ensures.within c.in-Bytes.n refl) c.in-Bytes.ensures.told c.took.ensures.view c.took.ensures.stands

pub returns-in-NotReady-clause-goes : goal.returns-in-NotReady-clause-goes
returns-in-NotReady-clause-goes g c =
    rw c.in-NotReady.is (unwritten_goes c.args.link c.args.session.now (g.N.Net.view c.args.net.now) (g.N.Net.view c.write-answer.new.self)
    c.queue.result.now c.queue.ensures.front c.in-NotReady.ensures.told)

pub returns-in-Failed-clause-goes : goal.returns-in-Failed-clause-goes
returns-in-Failed-clause-goes g c =
    rw c.in-Failed.is (failed_write_goes c.args.link c.args.session.now c.stop_write.new.session c.stop_write.result (g.N.Net.view c.args.net.now) (g.N.Net.view c.write-answer.new.self)
    c.queue.result.now c.queue.ensures.front c.in-Failed.ensures.told (c.in-Failed.ensures.failed refl)
    (record { stands = c.stop_write.ensures.stands; answer = c.stop_write.ensures.answer; first = c.stop_write.ensures.first; last = c.stop_write.ensures.last }))

pub returns-in-Bytes-clause-end : goal.returns-in-Bytes-clause-end
returns-in-Bytes-clause-end g c = queue_keeps c.args.link.side _ c.args.session.now c.took.new.session c.took.ensures.view

pub returns-in-Failed-clause-end : goal.returns-in-Failed-clause-end
returns-in-Failed-clause-end g c =
    stop_write_keeps c.args.link.side c.args.session.now c.stop_write.new.session c.stop_write.result
    (record { stands = c.stop_write.ensures.stands; answer = c.stop_write.ensures.answer; first = c.stop_write.ensures.first; last = c.stop_write.ensures.last })

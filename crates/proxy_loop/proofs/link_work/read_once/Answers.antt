use Rattle.std.proofs.Common.{◌∙◌, refl}
use Rattle.proxy_loop.proofs.Holding.{read_goes, finished_goes, unread_goes, failed_read_goes, some_room}
use Rattle.proxy_loop.proofs.link_work.read_once.Goals as goal

pub returns-in-Bytes-clause-goes : goal.returns-in-Bytes-clause-goes
returns-in-Bytes-clause-goes g c =
    read_goes c.args.policy.now c.args.link c.args.session.now c.feed.new.session
    (g.N.Net.view c.args.net.now) (g.N.Net.view c.read-answer.new.self) c.read-answer.new.into (c.read-answer.auto.into ∙ c.requires) c.in-Bytes.n
    c.in-Bytes.ensures.told (c.in-Bytes.ensures.progress c.in-Bytes.n refl (some_room c.read-answer.new.into (c.read-answer.auto.into ∙ c.requires))) (c.in-Bytes.ensures.within c.in-Bytes.n refl) c.feed.ensures.stands c.feed.ensures.last c.feed.ensures.mode c.feed.ensures.waits

pub returns-in-Finished-clause-goes : goal.returns-in-Finished-clause-goes
returns-in-Finished-clause-goes g c =
    finished_goes c.args.policy.now c.args.link c.args.session.now c.finish.new.session
    (g.N.Net.view c.args.net.now) (g.N.Net.view c.read-answer.new.self) c.read-answer.new.into (c.read-answer.auto.into ∙ c.requires) c.finish.result
    c.in-Finished.ensures.told (λ events taken s. c.finish.ensures.stands c.args.policy.now events taken s) c.finish.ensures.answer c.finish.ensures.own c.finish.ensures.last

pub returns-in-NotReady-clause-goes : goal.returns-in-NotReady-clause-goes
returns-in-NotReady-clause-goes g c =
    unread_goes c.args.policy.now c.args.link c.args.session.now c.args.session.now (g.N.Net.view c.args.net.now) (g.N.Net.view c.read-answer.new.self) c.read-answer.new.into (c.read-answer.auto.into ∙ c.requires) refl c.in-NotReady.ensures.told

pub returns-in-Failed-clause-goes : goal.returns-in-Failed-clause-goes
returns-in-Failed-clause-goes g c =
    failed_read_goes c.args.policy.now c.args.link c.args.session.now c.stop_read.new.session (g.N.Net.view c.args.net.now) (g.N.Net.view c.read-answer.new.self) c.read-answer.new.into (c.read-answer.auto.into ∙ c.requires) c.stop_read.result
    c.in-Failed.ensures.told (c.in-Failed.ensures.failed refl)
    (record { stands = c.stop_read.ensures.stands; answer = c.stop_read.ensures.answer; first = c.stop_read.ensures.first; last = c.stop_read.ensures.last })

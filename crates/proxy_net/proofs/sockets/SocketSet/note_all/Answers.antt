use Rattle.proxy_net.proofs.Going.{goes_through}
use Rattle.proxy_net.proofs.Retrying.{accepts_after, early_same, early_through, unreported_through}
use Rattle.proxy_net.proofs.Notes.{both_sides, all_kept}
use Rattle.proxy_net.proofs.Reading.{read_through, read_weaker}
use Rattle.proxy_net.specs.Sockets.{HasLink, IsTriedTo}
use Rattle.proxy_net.proofs.Waiting.{waits_through, waits_before, registered_after}
use Rattle.proxy_net.proofs.sockets.SocketSet.note_all.Goals as goal

pub returns-clause-noted : goal.returns-clause-noted
returns-clause-noted g c =
    all_kept c.note_side-2.new.self c.retry_all.new.self c.retry_all.ensures.kept c.args.reports.now
    (both_sides c.note_side.new.self c.note_side-2.new.self c.note_side-2.ensures.kept c.args.reports.now c.note_side.ensures.noted c.note_side-2.ensures.noted)

pub returns-clause-tried : goal.returns-clause-tried
returns-clause-tried g c = λ own.
    let goes = goes_through c.note_side.ensures.goes c.note_side-2.ensures.goes in
    c.retry_all.ensures.tried (λ number. goes.retries number (own number))

pub returns-clause-reported : goal.returns-clause-reported
returns-clause-reported g c = read_through c.note_side.ensures.reported (read_through c.note_side-2.ensures.reported (read_weaker (λ number e. cc) c.retry_all.ensures.reported))

pub returns-clause-goes : goal.returns-clause-goes
returns-clause-goes g c = goes_through c.note_side.ensures.goes (goes_through c.note_side-2.ensures.goes c.retry_all.ensures.goes)

pub returns-clause-told : goal.returns-clause-told
returns-clause-told g c = λ own.
    let sockets = c.args.self.now in
    let one = c.note_side.ensures.goes in
    let both = goes_through one c.note_side-2.ensures.goes in
    waits_through (HasLink sockets) (IsTriedTo sockets) (c.note_side.ensures.told own)
    (waits_through (HasLink sockets) (IsTriedTo sockets) (waits_before sockets c.note_side.new.self one (c.note_side-2.ensures.told (registered_after sockets c.note_side.new.self one own)))
    (waits_before sockets c.note_side-2.new.self both (c.retry_all.ensures.told (registered_after sockets c.note_side-2.new.self both own))))

pub returns-clause-early : goal.returns-clause-early
returns-clause-early g c = early_through (early_same c.args.self.now c.note_side.new.self c.note_side.ensures.dues) (early_through (early_same c.note_side.new.self c.note_side-2.new.self c.note_side-2.ensures.dues) c.retry_all.ensures.early)

pub returns-clause-accepts : goal.returns-clause-accepts
returns-clause-accepts g c = accepts_after (unreported_through c.note_side.ensures.listeners c.note_side-2.ensures.listeners) c.retry_all.ensures.accepts

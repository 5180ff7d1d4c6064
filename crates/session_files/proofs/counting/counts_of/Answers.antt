use Rattle.std.proofs.Common.{◌≡◌, ◌≤◌, ◌<◌, arith, get_or, length, refl, subst}
use Rattle.recording.specs.SessionsSeen.{sessions_seen}
use Rattle.session_files.specs.Counting.{only_session}
use Rattle.session_files.proofs.AllCounts.{all-next, all-counted}
use Rattle.session_files.proofs.counting.counts_of.Goals as goal

pub loop-event-preserved : goal.loop-event-preserved
loop-event-preserved c =
    let sessions = c.args.sessions.now in
    let items = c.deref-event-items.ensures.value in
    let index = c.loop-event.event-index in
    all-next (only_session sessions.version) sessions.events.items index c.event-item.result c.loop-event.counts c.count_event.new.counts
    (subst (λ es. index < length es) items c.loop-event-test.true) (subst (λ es. c.event-item.result ≡ get_or es index c.event-item.result) items c.event-item.is)
    (omega (arith, sessions.events.small, sessions.events.ok)) (omega (arith, c.requires.size)) c.loop-event.invariant c.in_ok-count_event.ensures

pub returns : goal.returns
returns c =
    let sessions = c.args.sessions.now in
    all-counted sessions.events.items c.loop-event.event-index (sessions_seen sessions) c.loop-event.counts c.requires refl
    (subst (λ es. length es ≤ c.loop-event.event-index) c.deref-event-items.ensures.value c.loop-event-test.false) c.loop-event.invariant

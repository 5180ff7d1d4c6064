use Rattle.std.proofs.Common.{rules, sym}
use Rattle.recording.specs.Sessions.{with_session}
use Rattle.recording.specs.SessionsSeen.{session_event_seen}
use Rattle.session_files.proofs.AllCounts.{counted-next}
use Rattle.session_files.proofs.counting.count_event.Goals as goal

pub returns : goal.returns
returns c = λ events sessions all countable.
    let event = session_event_seen c.args.event.now in
    let started = c.in_ok-start_if_new.ensures.all events sessions all in
    let new = c.add.new.self in
    let written = c.get_mut.follows.holds new in
    counted-next events event (with_session sessions event.session) c.start_if_new.new.counts (c.get_mut.follows.lender new) c.in-Some.session.now new started (sym c.in-Some.ensures.value)
    (written.3 (search rules)).0 written.1 written.4 countable c.add.ensures

use Rattle.std.proofs.Common.{[], rules, sym, subst}
use Rattle.recording.specs.Sessions.{sessions_named}
use Rattle.recording.specs.SessionsSeen.{session_event_seen}
use Rattle.replay.specs.SessionsPlayed.{PlaysAt}
use Rattle.replay.specs.declared.session_playing.Players.{Players}
use Rattle.replay.proofs.PlayersLaws.{played-on, when-played}
use Rattle.replay.proofs.session_playing.play_next.Goals as goal

pub returns : goal.returns
returns c = λ events so_far.
    let policy = c.args.policy.now in
    let k = c.args.event.now.session in
    let started = c.in_ok-start_if_new.ensures.all events (sessions_named [] events) so_far.all in
    let session = c.play_own.new.session in
    let written = c.get_mut.follows.holds session in
    let new : Players = record { running = c.get_mut.follows.lender session; notes = c.play_own.new.notes } in
    when-played c.play_own.result (c.play_own.ensures c.args.mode events (subst (λ o. PlaysAt policy c.args.mode events k o) (sym c.in-Some.ensures.value) (started.each k)))
    (λ on. played-on policy c.args.mode events (session_event_seen c.args.event.now) c.args.players.now new c.start_if_new.new.running session so_far started
    (written.3 (search rules)).0 written.1 written.4 on)

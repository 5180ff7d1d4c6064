use Rattle.std.proofs.Common.{◌+◌}
use Rattle.recording.specs.Seen.{recording_seen, seen}
use Rattle.replay.specs.declared.watching.Watched.{Watched}
use Rattle.replay.proofs.Elements.{gave-let-go, gave-played, none_waits}
use Rattle.replay_output.proofs.Events.{event-played}
use Rattle.replay.proofs.watching.Watched.play_next.Goals as goal

pub returns-clause-gave : goal.returns-clause-gave
returns-clause-gave c = λ given gave.
    let recording = recording_seen c.args.recording.now in
    let old = c.args.self.now in
    let between : Watched = record { session = c.play_event.new.session; played = old.played + 1 } in
    gave-let-go c.args.policy.now recording between c.let_go_bytes.new.session given c.let_go_bytes.ensures.view (c.let_go_bytes.ensures.stands c.args.policy.now)
    (gave-played c.args.policy.now recording old c.play_event.new.session (seen c.index.result.now) _ given
    (event-played c.args.recording.now.events.items old.played c.index.result.now c.requires.left c.index.ensures)
    c.play_event.ensures.bytes c.play_event.ensures.light (λ events taken. c.play_event.ensures.stands events taken) gave)

pub returns-clause-none : goal.returns-clause-none
returns-clause-none c = none_waits c.play_event.new.session c.let_go_bytes.new.session c.let_go_bytes.ensures.view

use Rattle.std.proofs.Common.{ap}
use Rattle.proxy_core.specs.Sessions.{SessionView}
use Rattle.replay_output.specs.Output.{events_of}
use Rattle.sample.proofs.Counting.{left_step, note_counted}
use Rattle.sample.proofs.playing.Play.count_notes.Goals as goal

pub loop-note-preserved : goal.loop-note-preserved
loop-note-preserved c =
    let inv = c.loop-note.invariant in
    record {
      counted = λ policy events counted.
          note_counted policy events c.loop-note.self (record { session = c.next_note.new.self; counts = c.add.new.self }) c.in-Some.note (inv.counted policy events counted)
          (λ taken stood. c.in-Some.ensures.stands policy (events_of events) taken stood) (ap (λ (v : SessionView). v.mode) c.in-Some.ensures.some.2)
          c.in_ok-add.ensures;
      left = left_step c.args.self.now.session c.loop-note.self.session c.next_note.new.self c.in-Some.ensures.some.0 c.in-Some.ensures.some.2 inv.left;
    }

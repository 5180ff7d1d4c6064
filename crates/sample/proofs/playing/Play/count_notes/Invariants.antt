use Rattle.std.proofs.Common.{◌≡◌, List, length}
use Rattle.policy_args.specs.Policy.{Policy}
use Rattle.recording.specs.Recording.{Event}
use Rattle.sample.specs.Playing.{Counted}
use Rattle.sample.proofs.playing.Play.count_notes.Given as goal

abbrev pub invariant-loop-note : goal.invariant-loop-note
invariant-loop-note l = record {
  counted : (policy : Policy) (events : List Event) → Counted policy events l.fn.self → Counted policy events l.self;
  left : l.self.session ≡ record (l.fn.self.session) { notes = l.self.session.notes };
}

abbrev pub decreases-loop-note : goal.decreases-loop-note
decreases-loop-note l = length l.self.session.notes

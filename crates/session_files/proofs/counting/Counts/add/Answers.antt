use Rattle.std.proofs.Common.{ap, ◌∙◌, ◌+◌, ◌-◌, ◌^◌, min}
use Rattle.std.specs.Option.{option_or}
use Rattle.recording.specs.SessionsSeen.{what_seen}
use Rattle.session_files.specs.declared.counting.Counts.{Counts}
use Rattle.session_files.proofs.Added.{counted-on, or-is}
use Rattle.session_files.proofs.counting.Counts.add.Goals as goal

pub returns : goal.returns
returns c = λ ws counted countable.
    let old = c.args.self.now in
    let new : Counts = record { client = c.saturating_add-self.result; bus = c.saturating_add-self-2.result; events = c.saturating_add-self-3.result; end = c.or-self.result } in
    counted-on ws (what_seen c.args.what.now) old new counted countable (c.saturating_add-self.ensures ∙ ap (λ n. min (old.client + n) (2 ^ 64 - 1)) c.from_client.ensures)
    (c.saturating_add-self-2.ensures ∙ ap (λ n. min (old.bus + n) (2 ^ 64 - 1)) c.from_bus.ensures) c.saturating_add-self-3.ensures
    (c.or-self.ensures ∙ ap (option_or old.end) c.end_of.ensures ∙ or-is old.end _)

use Rattle.std.proofs.Common.{◌≡◌, ◌==◌, ap, sym, ◌∙◌, false}
use Rattle.std.specs.Prelude.{◌&&◌}
use Rattle.std.specs.List.{list_any}
use Rattle.session_files.proofs.OwnWhats.{any-seen, none-first, none-second, or-false}
use Rattle.session_files.proofs.extraction.has_session.Goals as goal
use Rattle.session_files.proofs.extraction.has_session.Goals.{else-sessions-eq-VERSION-via-then-sessions-eq-VERSION+else-session-from, else-sessions-eq-VERSION-via-else-sessions-eq-VERSION}

pub returns : goal.returns
returns c =
    let sessions = c.args.sessions.now in
    let other : (sessions.version == 1 && c.args.session == 1) ≡ false = elim c.else-sessions-eq-VERSION.branch [
      | else-sessions-eq-VERSION-via-then-sessions-eq-VERSION+else-session-from w ↦ none-second (sessions.version == 1) c.args.session (λ is. w.if-session-from.false (is ∙ sym w.from.ensures))
      | else-sessions-eq-VERSION-via-else-sessions-eq-VERSION w ↦ none-first sessions.version (c.args.session == 1) w.if-sessions-eq-VERSION.false
    ] in
    c.has_event.ensures ∙ ap (list_any (λ e. e.session == c.args.session)) c.deref.ensures.value ∙ sym (any-seen c.args.session sessions.events.items)
    ∙ or-false (sessions.version == 1 && c.args.session == 1) _ other

use Rattle.std.proofs.Common.{◌≤◌, ap, sym, subst, ◌∙◌, length, map}
use Rattle.recording.specs.Recording.{spelled_recording}
use Rattle.recording.specs.SessionsSeen.{session_event_seen, sessions_seen}
use Rattle.recording.specs.declared.TheConstants.{RECORDING_LIMIT}
use Rattle.session_files.specs.OneSession.{before_stop, happened_in}
use Rattle.session_files.proofs.extraction.session_file.Goals as goal

pub write-requires : goal.write-requires
write-requires c =
    let sessions = c.args.sessions.now in
    let events = c.in_ok-events.ensures ∙ ap (λ es. before_stop (happened_in c.args.session (map session_event_seen es))) c.deref.ensures.value in
    subst (λ es. length (spelled_recording (record { auth = sessions.auth; events = es })) ≤ RECORDING_LIMIT) (sym events) (c.session_file_fits.ensures (sessions_seen sessions) c.args.session c.requires)

use Rattle.std.proofs.Common.{◌≤◌, length, subst, sym, ⊎_elim}
use Rattle.recording.specs.declared.TheConstants.{RECORDING_LIMIT}
use Rattle.recording.specs.Recording.{spelled_recording}
use Rattle.recording.specs.Sessions.{Sessions}
use Rattle.session_files.specs.OneSession.{session_recording}
use Rattle.session_files.proofs.Lengths.{fits-of-many, fits-of-one, within}
use Rattle.session_files.proofs.laws.session_file_fits.Goals as goal

pub returns : goal.returns
returns c = λ s session of.
    let short = within of.file s of.read in
    let readable = c.read_sessions_are_spelled.ensures.readable of.file s of.bytes of.read in
    ⊎_elim
    (λ one.
    let found = c.version_1_is_migrated.ensures.only of.file s of.read one in
    subst (λ (x : Sessions). length (spelled_recording (session_recording x session)) ≤ RECORDING_LIMIT) (sym found.2)
    (fits-of-one session found.0 of.file (c.read_is_spelled.ensures of.file found.0 of.bytes found.1) short))
    (λ two. fits-of-many s session of.file (c.read_sessions_are_spelled.ensures.spelled of.file s of.bytes of.read two) short)
    readable.version

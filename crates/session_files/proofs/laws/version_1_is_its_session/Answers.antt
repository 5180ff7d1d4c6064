use Rattle.std.proofs.Common.{Some, ap, ◌∙◌}
use Rattle.recording.specs.Sessions.{Sessions}
use Rattle.session_files.specs.OneSession.{session_file_of}
use Rattle.session_files.proofs.Lengths.{own-file}
use Rattle.session_files.proofs.laws.version_1_is_its_session.Goals as goal

pub returns : goal.returns
returns c = λ file s bytes read one.
    let found = c.version_1_is_migrated.ensures.only file s read one in
    ap (λ (x : Sessions). session_file_of x 1) found.2 ∙ own-file found.0 ∙ ap Some (c.read_is_spelled.ensures file found.0 bytes found.1)

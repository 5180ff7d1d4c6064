use Rattle.session_files.specs.OneSession.{session_recording}
use Rattle.session_files.proofs.Lengths.{events-fit}
use Rattle.session_files.proofs.laws.session_file_is_read.Goals as goal

pub returns : goal.returns
returns c = λ s session of.
    let readable = c.read_sessions_are_spelled.ensures.readable of.file s of.bytes of.read in
    c.written_is_read.ensures (session_recording s session) (events-fit s session readable) (c.session_file_fits.ensures s session of)

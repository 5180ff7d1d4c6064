use Rattle.std.proofs.lemmas.List.Elements.{recursion_from_All}
use Rattle.recording.specs.SessionsSeen.{EventFits}
use Rattle.recording.proofs.SessionsWritten.{sessions_again}
use Rattle.recording.proofs.laws.written_sessions_are_read.Goals as goal

pub returns : goal.returns
returns c s two fits short = sessions_again s two (recursion_from_All EventFits s.events fits.each) fits.few short

use Rattle.std.proofs.Common.{subst, List, ℕ, None}
use Rattle.record_net.specs.Tapes.{tape_of}
use Rattle.record_net.specs.Starts.{IsRecording, start_of}
use Rattle.record_net.proofs.record_file.RecordFile.create.Goals as goal

pub returns-clause-starts : goal.returns-clause-starts
returns-clause-starts g c journal = subst
    (λ (path : List ℕ). IsRecording (start_of journal (g.F.Files.view c.begin.new.files) path) journal
    (tape_of (g.F.Files.view c.begin.new.files) None))
    c.deref.ensures (c.in_ok-begin.ensures.starts journal)

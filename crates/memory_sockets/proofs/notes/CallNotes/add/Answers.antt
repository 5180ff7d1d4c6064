use Rattle.std.proofs.Common.{List, ℕ, ◌∷◌, ap₂, ◌∙◌}
use Rattle.proxy_net.specs.declared.reports.Report.{Report}
use Rattle.memory_sockets.specs.Notes.{call_of, calls_in}
use Rattle.memory_sockets.proofs.Noting.{reverse-calls_of}
use Rattle.memory_sockets.proofs.notes.CallNotes.add.Goals as goal

pub returns-clause-ok : goal.returns-clause-ok
returns-clause-ok c =
    reverse-calls_of c.args.self.now.calls.items c.push.new.self.items _ c.in_ok-push.ensures.items
    ∙ ap₂ (λ (bytes : List ℕ) (reports : List Report). call_of c.args.note bytes reports ∷ calls_in c.args.self.now) c.in_ok-bytes.ensures.items c.in_ok-reports.ensures.items

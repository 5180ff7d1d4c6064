use Rattle.std.proofs.Common.{ℕ, ◌≡◌, Bool, true, drop}
use Rattle.std.specs.List.{list_all, list_any}
use Rattle.proxy_net.specs.declared.reports.Report.{Report}
use Rattle.proxy_net.specs.Steps.{Steps, AreNoteCalls}
use Rattle.proxy_net.specs.Noting.{reports_number, reports_read}
use Rattle.proxy_net.specs.Sockets.{GoesOn, HasLink, IsTriedTo, is_link_registered, IsReadIf, KeepsNotes, KeepsUnreported, due_at, is_side_noted}
use Rattle.proxy_net.specs.declared.sockets.SocketSet.{SocketSet}
use Rattle.proxy_net.proofs.sockets.SocketSet.note_side.Given as goal

abbrev pub invariant-loop-report : goal.invariant-loop-report
invariant-loop-report g l = record {
  goes : GoesOn l.fn.self l.self;
  told : ((number : ℕ) → is_link_registered l.fn.self number ≡ true) → Steps (AreNoteCalls (HasLink l.fn.self) (IsTriedTo l.fn.self)) (g.S.Sockets.journal l.fn.system) (g.S.Sockets.journal l.system);
  kept : KeepsNotes l.fn.self l.self;
  dues : (number : ℕ) → due_at l.self number ≡ due_at l.fn.self number;
  listeners : KeepsUnreported (λ number. list_any (reports_number number) l.reports) l.fn.self l.self;
  reported : IsReadIf (λ number. list_any (reports_read number) l.reports) l.fn.self l.self;
  among : (p : Report → Bool) → list_any p (drop l.report-index l.reports) ≡ true → list_any p l.reports ≡ true;
  noted : (after : (SocketSet _ _)) → KeepsNotes l.self after → list_all (is_side_noted l.of_buses after) (drop l.report-index l.reports) ≡ true
      → list_all (is_side_noted l.of_buses after) l.reports ≡ true;
}

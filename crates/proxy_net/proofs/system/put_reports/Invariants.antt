use Rattle.std.proofs.Common.{◌≡◌, ◌++◌, map, vec_capacity}
use Rattle.std.specs.Slice.Iter.{iter_rest}
use Rattle.mio.specs.Events.{items}
use Rattle.proxy_net.specs.Reports.{report_of}
use Rattle.proxy_net.proofs.system.put_reports.Given as goal

abbrev pub invariant-loop-event : goal.invariant-loop-event
invariant-loop-event l = record {
  put : l.reports.items ++ map report_of (iter_rest l.event-iterator) ≡ map report_of (items l.events);
  capacity : vec_capacity l.reports ≡ vec_capacity l.fn.reports;
}

use Rattle.std.proofs.Common.{List, ◌++◌, ◌∷◌, [], map, ap, sym, ◌∙◌, arith}
use Rattle.std.specs.Slice.Iter.{iter_rest}
use Rattle.mio.specs.Events.{items}
use Rattle.mio.specs.declared.event.event.Event.{Event}
use Rattle.proxy_net.specs.declared.reports.Report.{Report}
use Rattle.proxy_net.specs.Reports.{report_of}
use Rattle.proxy_net.proofs.Putting.{one_fits, put_more}
use Rattle.proxy_net.proofs.system.put_reports.Goals as goal

pub push_reserved-requires : goal.push_reserved-requires
push_reserved-requires c =
    let put = c.loop-event.reports.items in
    let fits = one_fits report_of put c.in-Some.event.now (iter_rest c.next.new.self) (items c.args.events.now)
    (ap (λ (events : List Event). put ++ map report_of events) (sym c.in-Some.ensures.steps) ∙ c.loop-event.invariant.put) in
    omega (arith, fits, c.requires.room, c.loop-event.invariant.capacity, c.loop-event.reports.ok)

pub loop-event-preserved : goal.loop-event-preserved
loop-event-preserved c = record {
  put = ap (λ (reports : List Report). reports ++ map report_of (iter_rest c.next.new.self)) c.push_reserved.ensures.items
      ∙ ap (λ (report : Report). (c.loop-event.reports.items ++ report ∷ []) ++ map report_of (iter_rest c.next.new.self)) c.reported.ensures
      ∙ put_more report_of c.loop-event.reports.items c.in-Some.event.now (iter_rest c.next.new.self)
      ∙ ap (λ (events : List Event). c.loop-event.reports.items ++ map report_of events) (sym c.in-Some.ensures.steps) ∙ c.loop-event.invariant.put;
  capacity = c.push_reserved.ensures.capacity ∙ c.loop-event.invariant.capacity;
}

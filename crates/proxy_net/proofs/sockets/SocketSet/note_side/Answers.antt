use Rattle.std.proofs.Common.{List, ap, ◌∙◌, ◌+◌, false, get_or, drop}
use Rattle.std.specs.List.{list_all, list_any}
use Rattle.proxy_net.specs.declared.reports.Report.{Report}
use Rattle.proxy_net.specs.Noting.{reports_number, reports_read}
use Rattle.proxy_net.specs.Sockets.{is_side_noted}
use Rattle.proxy_net.specs.Sockets.{HasLink, IsTriedTo}
use Rattle.proxy_net.proofs.Waiting.{waits_through, waits_before, registered_after}
use Rattle.proxy_net.proofs.Going.{goes_through}
use Rattle.proxy_net.proofs.Notes.{notes_through, one_more}
use Rattle.std.proofs.lemmas.List.{drop_more}
use Rattle.proxy_net.proofs.Retrying.{unreported_through, unreported_weaker}
use Rattle.proxy_net.proofs.Reading.{read_through, read_weaker, any_first, any_later}
use Rattle.proxy_net.proofs.sockets.SocketSet.note_side.Goals as goal

pub loop-report-preserved : goal.loop-report-preserved
loop-report-preserved g c =
    let none : Report = record { number = 0; readable = false; writable = false; ending = false; closed = false } in
    let report = get_or c.args.reports.now c.loop-report.report-index none in
    let rest = drop (c.loop-report.report-index + 1) c.args.reports.now in
    let step = drop_more c.args.reports.now c.loop-report.report-index none c.loop-report-test.true in
    record {
      dues = λ number. c.note_of_side.ensures.dues number ∙ c.loop-report.invariant.dues number;
      goes = goes_through c.loop-report.invariant.goes c.note_of_side.ensures.goes;
      told = λ own. waits_through (HasLink c.args.self.now) (IsTriedTo c.args.self.now) (c.loop-report.invariant.told own) (waits_before c.args.self.now c.loop-report.self c.loop-report.invariant.goes (c.note_of_side.ensures.told (registered_after c.args.self.now c.loop-report.self c.loop-report.invariant.goes own)));
      kept = notes_through c.loop-report.invariant.kept c.note_of_side.ensures.kept;
      listeners = unreported_through c.loop-report.invariant.listeners (unreported_weaker (λ number e. c.loop-report.invariant.among (reports_number number)
          (ap (λ (reports : List Report). list_any (reports_number number) reports) step ∙ any_first (reports_number number) report rest e)) c.note_of_side.ensures.listeners);
      reported = read_through c.loop-report.invariant.reported (read_weaker (λ number e. c.loop-report.invariant.among (reports_read number)
          (ap (λ (reports : List Report). list_any (reports_read number) reports) step ∙ any_first (reports_read number) report rest e)) c.note_of_side.ensures.reported);
      among = λ p e. c.loop-report.invariant.among p (ap (λ (reports : List Report). list_any p reports) step ∙ any_later p report rest e);
      noted = λ after kept all. c.loop-report.invariant.noted after (notes_through c.note_of_side.ensures.kept kept)
          (ap (λ (reports : List Report). list_all (is_side_noted c.args.of_buses after) reports) step
          ∙ one_more c.args.of_buses c.note_of_side.new.self after kept report rest c.note_of_side.ensures.noted all);
    }

use Rattle.std.proofs.Common.{sym, ◌∙◌}
use Rattle.proxy_loop.proofs.Logged.{logs_start, one_logged, one_stops, all_logged, last_stops, on_ok, on_err}
use Rattle.proxy_loop.proofs.log_work.log_new.Goals as goal

pub loop-note-init : goal.loop-note-init
loop-note-init g c = logs_start c.args.number c.args.session.now (g.S.Sink.view c.args.sink.now) c.new-lines.result c.new-lines.ensures

pub loop-note-preserved : goal.loop-note-preserved
loop-note-preserved g c =
    one_logged c.args.number c.args.session.now c.loop-note.session c.next_note.new.self
    (g.S.Sink.view c.args.sink.now) (g.S.Sink.view c.loop-note.sink) (g.S.Sink.view c.put_line.new.sink)
    c.loop-note.lines c.in-Some.note c.loop-note.invariant
    c.in-Some.ensures.some.0 c.in-Some.ensures.some.1 c.in-Some.ensures.some.2 c.in-Some.ensures.stands c.put_line.new.self
    (on_ok c.put_line.result _ (sym c.is_err.ensures.value ∙ c.if-is_err.false) c.put_line.ensures.ok) c.put_line.ensures.count

pub returns-then-is_err : goal.returns-then-is_err
returns-then-is_err g c =
    let short = on_err c.put_line.result _ (sym c.is_err.ensures.value ∙ c.if-is_err.true) c.put_line.ensures.err in
    record {
      logs = one_stops c.args.number c.args.session.now c.loop-note.session c.next_note.new.self
          (g.S.Sink.view c.args.sink.now) (g.S.Sink.view c.loop-note.sink) (g.S.Sink.view c.put_line.new.sink)
          c.loop-note.lines c.in-Some.note c.loop-note.invariant
          c.in-Some.ensures.some.0 c.in-Some.ensures.some.1 c.in-Some.ensures.some.2 c.in-Some.ensures.stands short.0 c.stop.new.self c.stop.result short.1 c.put_line.ensures.count
          (on_err c.put_line.result _ (sym c.is_err.ensures.value ∙ c.if-is_err.true) c.put_line.ensures.cause)
          (record { stands = c.stop.ensures.stands; answer = c.stop.ensures.answer; first = c.stop.ensures.first; last = c.stop.ensures.last });
    }

pub returns-then-is_err-2 : goal.returns-then-is_err-2
returns-then-is_err-2 g c =
    let short = on_err c.write_out.result _ (sym c.is_err-2.ensures.value ∙ c.if-is_err-2.true) c.write_out.ensures.err in
    record {
      logs = last_stops c.args.number c.args.session.now c.loop-note.session c.next_note.new.self
          (g.S.Sink.view c.args.sink.now) (g.S.Sink.view c.loop-note.sink) (g.S.Sink.view c.write_out.new.sink)
          c.loop-note.lines c.loop-note.invariant c.in_default.ensures.none.0 c.in_default.ensures.none.1 short.0 c.stop-then-is_err-2.new.self c.stop-then-is_err-2.result short.1 c.write_out.ensures.count
          (on_err c.write_out.result _ (sym c.is_err-2.ensures.value ∙ c.if-is_err-2.true) c.write_out.ensures.cause)
          (record { stands = c.stop-then-is_err-2.ensures.stands; answer = c.stop-then-is_err-2.ensures.answer; first = c.stop-then-is_err-2.ensures.first; last = c.stop-then-is_err-2.ensures.last });
    }

pub returns : goal.returns
returns g c = record {
  logs = all_logged c.args.number c.args.session.now c.loop-note.session c.next_note.new.self
      (g.S.Sink.view c.args.sink.now) (g.S.Sink.view c.loop-note.sink) (g.S.Sink.view c.write_out.new.sink)
      c.loop-note.lines c.loop-note.invariant c.in_default.ensures.none.0 c.in_default.ensures.none.1
      (on_ok c.write_out.result _ (sym c.is_err-2.ensures.value ∙ c.if-is_err-2.false) c.write_out.ensures.ok).1 c.write_out.ensures.count;
}

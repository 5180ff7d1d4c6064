use Rattle.std.proofs.Common.{sym, ◌∙◌, string_bytes}
use Rattle.explain_log.specs.Lines.{log_line}
use Rattle.replay.proofs.Logs.{front_before}
use Rattle.replay.proofs.logging.put_line.Goals as goal

pub returns-in_err-write_lines-clause-part : goal.returns-in_err-write_lines-clause-part
returns-in_err-write_lines-clause-part g c =
    front_before c.push_line.result (g.E.Sink.view c.args.err.now).told (g.E.Sink.view c.write_lines.new.err).told (string_bytes c.args.lines.now) (string_bytes c.push_line.new.lines) (log_line c.args.session c.args.note.now)
    (sym c.is_err.ensures.value ∙ c.if-is_err.true) c.push_line.ensures.err c.write_lines.ensures.part

pub returns-then-is_err-clause-part : goal.returns-then-is_err-clause-part
returns-then-is_err-clause-part g c =
    front_before c.push_line.result (g.E.Sink.view c.args.err.now).told (g.E.Sink.view c.write_lines.new.err).told (string_bytes c.args.lines.now) (string_bytes c.push_line.new.lines) (log_line c.args.session c.args.note.now)
    (sym c.is_err.ensures.value ∙ c.if-is_err.true) c.push_line.ensures.err c.write_lines.ensures.part

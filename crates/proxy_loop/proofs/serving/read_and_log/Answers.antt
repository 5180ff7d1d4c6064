use Rattle.std.proofs.Common.{sym, ◌∙◌, refl, ℕ, subst}
use Rattle.proxy_loop.specs.Runs.{LogsIf}
use Rattle.proxy_loop.proofs.Joining.{reads_idle, reads_if, runs_on}
use Rattle.proxy_loop.proofs.serving.read_and_log.Goals as goal

pub returns-then-is_unread-clause-reads : goal.returns-then-is_unread-clause-reads
returns-then-is_unread-clause-reads g c =
    reads_idle c.args.policy.now c.args.log c.args.running.now.number c.args.side _ c.args.running.now (g.N.Net.view c.args.net.now) (g.S.Sink.view c.args.sink.now)
    (sym c.is_unread.ensures ∙ c.if-is_unread.true)

pub returns-clause-reads : goal.returns-clause-reads
returns-clause-reads g c =
    reads_if c.args.policy.now c.args.running.now.number c.args.side _ c.args.running.now c.read_named.new.running _
    (g.N.Net.view c.args.net.now) (g.N.Net.view c.read_named.new.net) (g.S.Sink.view c.args.sink.now) (g.S.Sink.view c.log_if.new.sink)
    (sym c.is_unread.ensures ∙ c.if-is_unread.false) c.requires.sound
    (runs_on c.args.running.now.session.ended _ (sym c.is_unread.ensures ∙ c.if-is_unread.false)) c.read_named.ensures.reads refl refl c.args.log
    (subst (λ (m : ℕ). LogsIf c.args.log m c.read_named.new.running.session c.log_if.new.session (g.S.Sink.view c.args.sink.now) (g.S.Sink.view c.log_if.new.sink))
    c.read_named.ensures.place.number c.log_if.ensures)

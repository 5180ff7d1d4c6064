use Rattle.std.proofs.Common.{sym, ◌∙◌, Err}
use Rattle.proxy_loop.specs.declared.turns.ServerEnd.TheVariants.{Memory}
use Rattle.proxy_loop.specs.Tables.{table_of}
use Rattle.proxy_loop.proofs.TurnLaws.{on_ok, on_err, counted_is, after_wait, turn_worked, wait_rose}
use Rattle.proxy_loop.proofs.TurnLogs.{turn_logs}
use Rattle.proxy_loop.proofs.Wishing.{turn_wished}
use Rattle.proxy_loop.proofs.turns.take_turn.Goals as goal

pub returns-then-is_err-clause-did : goal.returns-then-is_err-clause-did
returns-then-is_err-clause-did g c = record {
  ready = c.wait-ready.result;
  between = g.N.Net.view c.wait-ready.new.self;
  waited = c.wait-ready.ensures.told;
  failed = c.wait-ready.ensures.failed;
  quiet = c.wait-ready.ensures.quiet;
  wishes = c.wait-ready.ensures.wishes;
  does = on_err c.work_on-worked.result _ (sym c.is_err.ensures.value ∙ c.if-is_err.true) c.work_on-worked.ensures.err;
  counted = counted_is c.work_on-worked.new.sessions;
}

pub returns-then-is_err-clause-sound : goal.returns-then-is_err-clause-sound
returns-then-is_err-clause-sound g c =
    (turn_worked c.args.blocks.now c.args.limit (table_of c.args.sessions.now) (table_of c.work_on-worked.new.sessions) (g.N.Net.view c.args.net.now) (g.N.Net.view c.work_on-worked.new.net)
    (g.S.Sink.view c.args.sink.now) (g.S.Sink.view c.work_on-worked.new.sink) (Err Memory) c.requires.sound (returns-then-is_err-clause-did g c)).sound

pub returns-then-is_err-clause-serves : goal.returns-then-is_err-clause-serves
returns-then-is_err-clause-serves g c =
    (turn_worked c.args.blocks.now c.args.limit (table_of c.args.sessions.now) (table_of c.work_on-worked.new.sessions) (g.N.Net.view c.args.net.now) (g.N.Net.view c.work_on-worked.new.net)
    (g.S.Sink.view c.args.sink.now) (g.S.Sink.view c.work_on-worked.new.sink) (Err Memory) c.requires.sound (returns-then-is_err-clause-did g c)).on

pub returns-clause-did : goal.returns-clause-did
returns-clause-did g c = record {
  ready = c.wait-ready.result;
  between = g.N.Net.view c.wait-ready.new.self;
  waited = c.wait-ready.ensures.told;
  failed = c.wait-ready.ensures.failed;
  quiet = c.wait-ready.ensures.quiet;
  wishes = c.wait-ready.ensures.wishes;
  does = after_wait c.args.blocks.now c.args.limit c.wait-ready.result (table_of c.args.sessions.now) (table_of c.work_on-worked.new.sessions)
      (g.N.Net.view c.wait-ready.new.self) (g.N.Net.view c.work_on-worked.new.net) (g.S.Sink.view c.args.sink.now) (g.S.Sink.view c.work_on-worked.new.sink)
      c.answer.result c.answer.ensures (on_ok c.work_on-worked.result _ (sym c.is_err.ensures.value ∙ c.if-is_err.false) c.work_on-worked.ensures.did);
  counted = counted_is c.work_on-worked.new.sessions;
}

pub returns-clause-sound : goal.returns-clause-sound
returns-clause-sound g c =
    (turn_worked c.args.blocks.now c.args.limit (table_of c.args.sessions.now) (table_of c.work_on-worked.new.sessions) (g.N.Net.view c.args.net.now) (g.N.Net.view c.work_on-worked.new.net)
    (g.S.Sink.view c.args.sink.now) (g.S.Sink.view c.work_on-worked.new.sink) c.answer.result c.requires.sound (returns-clause-did g c)).sound

pub returns-clause-serves : goal.returns-clause-serves
returns-clause-serves g c =
    (turn_worked c.args.blocks.now c.args.limit (table_of c.args.sessions.now) (table_of c.work_on-worked.new.sessions) (g.N.Net.view c.args.net.now) (g.N.Net.view c.work_on-worked.new.net)
    (g.S.Sink.view c.args.sink.now) (g.S.Sink.view c.work_on-worked.new.sink) c.answer.result c.requires.sound (returns-clause-did g c)).on

pub returns-clause-wait : goal.returns-clause-wait
returns-clause-wait g c = λ e.
    wait_rose c.args.blocks.now c.args.limit (table_of c.args.sessions.now) (table_of c.work_on-worked.new.sessions) (g.N.Net.view c.args.net.now) (g.N.Net.view c.work_on-worked.new.net)
    (g.S.Sink.view c.args.sink.now) (g.S.Sink.view c.work_on-worked.new.sink) c.answer.result e (returns-clause-did g c)

pub returns-then-is_err-clause-log : goal.returns-then-is_err-clause-log
returns-then-is_err-clause-log g c =
    turn_logs c.args.blocks.now c.args.limit (table_of c.args.sessions.now) (table_of c.work_on-worked.new.sessions) (g.N.Net.view c.args.net.now) (g.N.Net.view c.work_on-worked.new.net)
    (g.S.Sink.view c.args.sink.now) (g.S.Sink.view c.work_on-worked.new.sink) (Err Memory) c.requires.sound (returns-then-is_err-clause-did g c)

pub returns-clause-log : goal.returns-clause-log
returns-clause-log g c =
    turn_logs c.args.blocks.now c.args.limit (table_of c.args.sessions.now) (table_of c.work_on-worked.new.sessions) (g.N.Net.view c.args.net.now) (g.N.Net.view c.work_on-worked.new.net)
    (g.S.Sink.view c.args.sink.now) (g.S.Sink.view c.work_on-worked.new.sink) c.answer.result c.requires.sound (returns-clause-did g c)

pub returns-then-is_err-clause-wished : goal.returns-then-is_err-clause-wished
returns-then-is_err-clause-wished g c =
    turn_wished c.args.blocks.now c.args.limit (table_of c.args.sessions.now) (table_of c.work_on-worked.new.sessions) (g.N.Net.view c.args.net.now) (g.N.Net.view c.work_on-worked.new.net)
    (g.S.Sink.view c.args.sink.now) (g.S.Sink.view c.work_on-worked.new.sink) (Err Memory) c.requires.sound (returns-then-is_err-clause-did g c)

pub returns-clause-wished : goal.returns-clause-wished
returns-clause-wished g c =
    turn_wished c.args.blocks.now c.args.limit (table_of c.args.sessions.now) (table_of c.work_on-worked.new.sessions) (g.N.Net.view c.args.net.now) (g.N.Net.view c.work_on-worked.new.net)
    (g.S.Sink.view c.args.sink.now) (g.S.Sink.view c.work_on-worked.new.sink) c.answer.result c.requires.sound (returns-clause-did g c)

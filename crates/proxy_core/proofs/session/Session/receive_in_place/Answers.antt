use Rattle.proxy_core.proofs.Draining.{bytes_refused}
use Rattle.proxy_core.proofs.InPlace.{came_filters, came_lent, came_runs, piece_light, piece_took}
use Rattle.proxy_core.proofs.session.Session.receive_in_place.Goals as goal

pub process_messages-requires-clause-running : goal.process_messages-requires-clause-running
process_messages-requires-clause-running c = came_runs c.args.side _ c.args.self.now c.lend_piece.new.self c.in-Ok.ensures.ok c.requires.running

pub process_messages-requires-clause-lent : goal.process_messages-requires-clause-lent
process_messages-requires-clause-lent c = came_lent c.args.side _ c.args.self.now c.lend_piece.new.self c.in-Ok.ensures.ok c.requires.messages c.requires.none

pub process_messages-requires-clause-filtered : goal.process_messages-requires-clause-filtered
process_messages-requires-clause-filtered c = came_filters c.args.side _ c.args.self.now c.lend_piece.new.self c.in-Ok.ensures.ok c.requires.filtered

pub put_messages-requires : goal.put_messages-requires
put_messages-requires c = c.process_messages.ensures.lent

pub returns-in-Ok-clause-took : goal.returns-in-Ok-clause-took
returns-in-Ok-clause-took c =
    piece_took c.args.policy.now c.args.side c.args.piece.now c.in-Ok.messages c.process_messages.new.messages c.args.self.now c.lend_piece.new.self c.process_messages.new.self c.put_messages.new.self
    c.requires.none c.in-Ok.ensures.piece c.in-Ok.ensures.ok
    c.put_messages.ensures c.requires.some c.process_messages.ensures.took

pub returns-in-Ok-clause-light : goal.returns-in-Ok-clause-light
returns-in-Ok-clause-light c =
    piece_light c.args.policy.now c.args.side c.args.piece.now c.in-Ok.messages c.process_messages.new.messages c.args.self.now c.lend_piece.new.self c.process_messages.new.self c.put_messages.new.self
    c.requires.none c.in-Ok.ensures.piece c.in-Ok.ensures.ok
    c.put_messages.ensures c.process_messages.ensures.light

pub returns-in-Err-clause-took : goal.returns-in-Err-clause-took
returns-in-Err-clause-took c = bytes_refused c.args.policy.now c.args.side c.args.piece.now c.args.self.now c.lend_piece.new.self c.end_with.new.self c.requires.running c.in-Err.ensures.err c.end_with.ensures

use Rattle.proxy_net.proofs.Notes.{this_side}
use Rattle.proxy_net.proofs.sockets.SocketSet.note_of_side.Goals as goal

pub returns-then-is_bus-of_buses-clause-noted : goal.returns-then-is_bus-of_buses-clause-noted
returns-then-is_bus-of_buses-clause-noted g c = this_side c.args.of_buses c.note_report.new.self c.args.report.now c.note_report.ensures.noted

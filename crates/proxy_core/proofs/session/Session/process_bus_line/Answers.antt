use Rattle.std.proofs.Common.{refl}
use Rattle.proxy_core.proofs.LineSteps.{bus_light, bus_left_behind}
use Rattle.proxy_core.proofs.session.Session.process_bus_line.Goals as goal

pub returns-in-Ok-Line-clause-light : goal.returns-in-Ok-Line-clause-light
returns-in-Ok-Line-clause-light c =
    bus_light c.args.policy.now _ c.args.self.now c.show_line.new.self _ c.next_bus_line.new.self c.in-Ok-Line.line _ c.self.view_is (bus_left_behind _ _ _ c.next_bus_line.new.self c.in-Ok-Line.field-0 c.in-Ok-Line.line c.in-Ok-Line.field-0-is c.in-Ok-Line.ensures.ok)
    c.show_line.ensures refl refl refl refl refl refl refl

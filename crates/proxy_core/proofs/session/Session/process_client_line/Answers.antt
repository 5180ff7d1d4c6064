use Rattle.std.proofs.Common.{refl, inl, inr}
use Rattle.proxy_core.proofs.LineSteps.{client_light, client_left_behind}
use Rattle.proxy_core.proofs.session.Session.process_client_line.Goals as goal

pub returns-in-Ok-Line-clause-light : goal.returns-in-Ok-Line-clause-light
returns-in-Ok-Line-clause-light c =
    client_light c.args.policy.now _ c.args.self.now c.send_line.new.self _ c.next_client_line.new.self c.in-Ok-Line.line _ c.self.view_is (client_left_behind _ c.next_client_line.new.self c.in-Ok-Line.field-0 c.in-Ok-Line.line (inl c.in-Ok-Line.field-0-is) c.in-Ok-Line.ensures.ok)
    c.send_line.ensures refl refl refl refl refl refl refl

pub returns-in-Ok-Begin-clause-light : goal.returns-in-Ok-Begin-clause-light
returns-in-Ok-Begin-clause-light c =
    client_light c.args.policy.now _ c.args.self.now c.send_begin.new.self _ c.next_client_line.new.self c.in-Ok-Begin.line _ c.self.view_is (client_left_behind _ c.next_client_line.new.self c.in-Ok-Begin.field-0 c.in-Ok-Begin.line (inr c.in-Ok-Begin.field-0-is) c.in-Ok-Begin.ensures.ok)
    c.send_begin.ensures refl refl refl refl refl refl refl

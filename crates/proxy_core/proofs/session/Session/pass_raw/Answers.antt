use Rattle.proxy_core.proofs.Draining.{raw_light, raw_stepped, refused_step}
use Rattle.proxy_core.proofs.session.Session.pass_raw.Goals as goal

pub returns-in-Ok-clause-step : goal.returns-in-Ok-clause-step
returns-in-Ok-clause-step c =
    raw_stepped c.args.policy.now c.args.side c.args.self.now c.take_left.new.self c.put_raw.new.self c.in-Ok.bytes c.put_raw.result c.in-Ok.ensures.ok c.in-Ok.ensures.bytes c.put_raw.ensures c.requires.running c.requires.messages c.requires.unfiltered

pub returns-in-Ok-clause-light : goal.returns-in-Ok-clause-light
returns-in-Ok-clause-light c =
    raw_light c.args.policy.now c.args.side c.args.self.now c.take_left.new.self c.put_raw.new.self c.in-Ok.bytes c.put_raw.result c.in-Ok.ensures.ok c.in-Ok.ensures.bytes c.put_raw.ensures

pub returns-in-Err-clause-step : goal.returns-in-Err-clause-step
returns-in-Err-clause-step c = refused_step c.args.policy.now c.args.side c.args.self.now c.take_left.new.self c.end_with.new.self c.requires.running c.in-Err.ensures.err c.end_with.ensures

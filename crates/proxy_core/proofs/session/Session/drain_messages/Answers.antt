use Rattle.std.proofs.Common.{◌∙◌}
use Rattle.proxy_core.proofs.Lent.{lends, lends_filtered, took_whole, light_whole}
use Rattle.proxy_core.proofs.session.Session.drain_messages.Goals as goal

pub process_messages-requires-clause-lent : goal.process_messages-requires-clause-lent
process_messages-requires-clause-lent c = lends c.args.side c.args.self.now c.lend_messages-framer.new.self c.requires.messages c.lend_messages-framer.ensures.rest

pub process_messages-requires-clause-filtered : goal.process_messages-requires-clause-filtered
process_messages-requires-clause-filtered c = lends_filtered c.args.side c.args.self.now c.lend_messages-framer.new.self c.lend_messages-framer.ensures.rest c.requires.filtered

pub put_messages-requires : goal.put_messages-requires
put_messages-requires c = c.process_messages.ensures.lent

pub returns-clause-took : goal.returns-clause-took
returns-clause-took c =
    took_whole c.args.policy.now c.args.side c.args.most c.args.self.now c.lend_messages-framer.new.self c.process_messages.new.self c.put_messages.new.self c.kept-messages.result c.process_messages.new.messages
    (c.kept-messages.ensures ∙ c.lend_messages-framer.ensures.left) c.lend_messages-framer.ensures.rest
    c.put_messages.ensures c.process_messages.ensures.took

pub returns-clause-light : goal.returns-clause-light
returns-clause-light c =
    light_whole c.args.policy.now c.args.side c.args.self.now c.lend_messages-framer.new.self c.process_messages.new.self c.put_messages.new.self c.kept-messages.result c.process_messages.new.messages
    (c.kept-messages.ensures ∙ c.lend_messages-framer.ensures.left) c.lend_messages-framer.ensures.rest
    c.put_messages.ensures c.process_messages.ensures.light

use Rattle.std.proofs.Common.{◌∙◌}
use Rattle.dbus_header.specs.Read.{message_seen}
use Rattle.policy_view.proofs.Frames.{contents_read, has_message}
use Rattle.policy_view.proofs.note.message_by.Goals as goal

pub read_valid-requires : goal.read_valid-requires
read_valid-requires c = has_message c.args.frame.now c.requires

pub returns-clause-contents : goal.returns-clause-contents
returns-clause-contents c = λ m valid is. contents_read c.read_valid.result.bytes.now (message_seen c.read_valid.result) m c.read_valid.result.read valid (c.read_valid.ensures ∙ is)

use Rattle.dbus_values.specs.Seen.{place_seen, text_seen}
use Rattle.dbus_values.proofs.BodyLaws.{text_passed}
use Rattle.dbus_values.proofs.Walks.{not_empty}
use Rattle.dbus_values.proofs.texts.text_if_left.Goals as goal

pub returns-clause-others : goal.returns-clause-others
returns-clause-others c =
    text_passed c.args.order (place_seen c.args.at) (text_seen c.text.result) (not_empty c.args.at.bytes.now c.if-is_empty.ensures) c.requires c.text.ensures

use Rattle.std.proofs.Common.{◌≡◌, ℕ, ◌-◌, List, ◌++◌, length, take, ap, ap₂, sym, ◌∙◌, arith}
use Rattle.dbus_values.specs.declared.Order.{Order}
use Rattle.dbus_header.specs.Contents.{Contents}
use Rattle.dbus_header.specs.Message.{spell, with_reply_serial}
use Rattle.policy_view.specs.Shown.{cut as cut_by}
use Rattle.dbus_header.specs.Read.{message_seen}
use Rattle.dbus_header.proofs.MessageBodies.{same-contents}
use Rattle.unique_names.specs.Taught.{kept_level}
use Rattle.name_filters.specs.Names.{cut_parts, with_numbers}
use Rattle.name_filters.proofs.Listed.{body_at, cut-written, listed, level-is, place-inside, read_as}
use Rattle.name_filters.proofs.lists.cut.Goals as goal

pub overflow_sub-body : goal.overflow_sub-body
overflow_sub-body c = let m = read_as c.args.message.now c.requires.list c.is_spelled.ensures in omega (arith, m.1.all)

pub put_parts-requires-clause-body : goal.put_parts-requires-clause-body
put_parts-requires-clause-body c = let m = read_as c.args.message.now c.requires.list c.is_spelled.ensures in omega (arith, m.1.all)

pub write_numbers-requires-clause-head : goal.write_numbers-requires-clause-head
write_numbers-requires-clause-head c = let m = read_as c.args.message.now c.requires.list c.is_spelled.ensures in omega (arith, m.1.all)

pub write_numbers-requires-clause-place : goal.write_numbers-requires-clause-place
write_numbers-requires-clause-place c =
    let m = read_as c.args.message.now c.requires.list c.is_spelled.ensures in
    omega (arith, m.1.all, place-inside c.args.message.now.bytes.now (message_seen c.args.message.now) m.0 c.place_of.result m.1 c.requires.reply c.place_of.ensures)

pub write_numbers-requires-clause-high : goal.write_numbers-requires-clause-high
write_numbers-requires-clause-high c =
    let m = read_as c.args.message.now c.requires.list c.is_spelled.ensures in omega (arith, m.1.short, c.put_parts.ensures.high, c.len-start.ensures.value)

pub returns-clause-ok : goal.returns-clause-ok
returns-clause-ok c = λ m is.
    let of = c.is_spelled.ensures m is in
    let m_is = listed c.args.message.now.bytes.now (message_seen c.args.message.now) m (same-contents c.args.message.now.bytes.now (message_seen c.args.message.now) m is c.args.message.now.read) c.requires.list of.0 of.1 in
    let body = length c.args.message.now.bytes.now - length c.args.message.now.body.now in
    let body_is : body ≡ body_at m = omega (arith, m_is.all) in
    let old = c.reserve.new.self.items in
    let parts = c.put_parts.ensures.parts m is in
    c.write_numbers.ensures.bytes
    ∙ ap₂ (λ (o : Order) start. with_numbers o start body c.place_of.result c.args.reply_serial c.put_parts.new.into.items) (sym (ap (λ (k : Contents). k.order) m_is.contents)) c.len-start.ensures.value
    ∙ ap (with_numbers m.order (length old) body c.place_of.result c.args.reply_serial) parts
    ∙ ap (λ n. with_numbers m.order (length old) n c.place_of.result c.args.reply_serial (old ++ cut_parts c.args.policy.now c.args.tracker.now m (take n c.args.message.now.bytes.now))) body_is
    ∙ cut-written c.args.policy.now c.args.tracker.now c.args.message.now.bytes.now (message_seen c.args.message.now) m c.args.reply_serial c.place_of.result old m_is c.requires.reply c.place_of.ensures
    ∙ ap (λ (b : List ℕ). b ++ spell (with_reply_serial c.args.reply_serial (cut_by (kept_level c.args.policy.now c.args.tracker.now) m))) c.reserve.ensures.items

pub returns-clause-exact : goal.returns-clause-exact
returns-clause-exact c = λ facts m taught is.
    returns-clause-ok c m is
    ∙ ap (λ level. c.args.into.now.items ++ spell (with_reply_serial c.args.reply_serial (cut_by level m))) (level-is c.args.policy.now c.args.tracker.now facts taught)

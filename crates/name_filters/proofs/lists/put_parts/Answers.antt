use Rattle.std.proofs.Common.{◌≡◌, ℕ, ◌+◌, ◌-◌, List, [], ◌∷◌, ◌++◌, length, take, Some, ap, ap₂, sym, ◌∙◌, arith, append_assoc, length-append}
use Rattle.std.proofs.lemmas.List.{length-take-le}
use Rattle.dbus_names.specs.Texts.{Text}
use Rattle.dbus_types.specs.Signature.{array, basic, string}
use Rattle.dbus_values.specs.Bodies.{list_in, texts_or_none}
use Rattle.dbus_values.specs.declared.Order.{Order}
use Rattle.dbus_header.specs.Contents.{Contents}
use Rattle.dbus_header.specs.Message.{Message}
use Rattle.dbus_header.specs.Read.{message_seen}
use Rattle.dbus_header.proofs.MessageBodies.{same-contents}
use Rattle.dbus_header.specs.declared.message.Message.{Message as Seen}
use Rattle.name_filters.specs.Names.{is_kept, kept_names, names_bytes}
use Rattle.name_filters.proofs.Listed.{Listed, body_at, listed, names-left, read_as}
use Rattle.name_filters.proofs.NameBytes.{fewer-short}
use Rattle.name_filters.proofs.lists.put_parts.Goals as goal

pub text_list-names-requires : goal.text_list-names-requires
text_list-names-requires c =
    let m = read_as c.args.message.now c.requires.list c.is_spelled.ensures in
    (body_at m.0, array (basic string) ∷ [], m.0.body, m.1.read)

pub extend_reserved-requires-2 : goal.extend_reserved-requires-2
extend_reserved-requires-2 c =
    let m = read_as c.args.message.now c.requires.list c.is_spelled.ensures in
    omega (arith, m.1.size, c.extend_reserved.ensures.spare, length-take-le c.args.body c.args.message.now.bytes.now (omega arith))

-- what the names that were read take
names-take : (s : Seen) (m : Message) (start body : ℕ) (old one two : List ℕ) (names : List Text) → Listed s.bytes.now (message_seen s) m → list_in m.body ≡ Some names →
    body + length s.body.now ≡ length s.bytes.now → start ≡ length old → one ≡ old ++ take body s.bytes.now → two ≡ one ++ 0 ∷ 0 ∷ 0 ∷ 0 ∷ [] →
    (length two - start ≡ body + 4) × (length (names_bytes s.order (length two - start) names) + 4 ≡ length s.body.now)
names-take s m start body old one two names is read body_is start_is one_is two_is =
    let front : length (take body s.bytes.now) ≡ body = length-take-le body s.bytes.now (omega (arith, body_is)) in
    let place : length two - start ≡ body + 4 =
    omega (arith, ap length two_is, length-append one (0 ∷ 0 ∷ 0 ∷ 0 ∷ []), ap length one_is, length-append old (take body s.bytes.now), front, start_is) in
    (place, names-left s.bytes.now (message_seen s) m s.order body (length two - start) names is (sym (ap (λ (c : Contents). c.order) is.contents)) read body_is place)

pub put_names-requires-clause-room : goal.put_names-requires-clause-room
put_names-requires-clause-room c =
    let m = read_as c.args.message.now c.requires.list c.is_spelled.ensures in
    let front : length (take c.args.body c.args.message.now.bytes.now) ≡ c.args.body = length-take-le c.args.body c.args.message.now.bytes.now (omega (arith, c.requires.body)) in
    let names = (names-take c.args.message.now m.0 c.len-start.result c.args.body c.args.into.now.items c.extend_reserved.new.self.items c.extend_reserved-2.new.self.items c.text_list-names.result m.1
    (c.text_list-names.ensures (body_at m.0) (array (basic string) ∷ []) m.0.body m.1.read) c.requires.body c.len-start.ensures.value c.extend_reserved.ensures.items c.extend_reserved-2.ensures.items).1 in
    omega (arith, names, front, c.requires.body, c.requires.room, c.extend_reserved.ensures.spare, c.extend_reserved-2.ensures.spare)

pub put_names-requires-clause-short : goal.put_names-requires-clause-short
put_names-requires-clause-short c =
    let m = read_as c.args.message.now c.requires.list c.is_spelled.ensures in
    let names = (names-take c.args.message.now m.0 c.len-start.result c.args.body c.args.into.now.items c.extend_reserved.new.self.items c.extend_reserved-2.new.self.items c.text_list-names.result m.1
    (c.text_list-names.ensures (body_at m.0) (array (basic string) ∷ []) m.0.body m.1.read) c.requires.body c.len-start.ensures.value c.extend_reserved.ensures.items c.extend_reserved-2.ensures.items).1 in
    omega (arith, names, c.requires.body, m.1.short)

grouped : (old front four behind : List ℕ) → ((old ++ front) ++ four) ++ behind ≡ old ++ (front ++ (four ++ behind))
grouped old front four behind = append_assoc (old ++ front) four behind ∙ append_assoc old front (four ++ behind)

pub returns-clause-parts : goal.returns-clause-parts
returns-clause-parts c = λ m is.
    let of = c.is_spelled.ensures m is in
    let m_is = listed c.args.message.now.bytes.now (message_seen c.args.message.now) m (same-contents c.args.message.now.bytes.now (message_seen c.args.message.now) m is c.args.message.now.read) c.requires.list of.0 of.1 in
    let read : list_in m.body ≡ Some c.text_list-names.result = c.text_list-names.ensures (body_at m) (array (basic string) ∷ []) m.body m_is.read in
    let front = take c.args.body c.args.message.now.bytes.now in
    let long : length front ≡ c.args.body = length-take-le c.args.body c.args.message.now.bytes.now (omega (arith, c.requires.body)) in
    let place = (names-take c.args.message.now m c.len-start.result c.args.body c.args.into.now.items c.extend_reserved.new.self.items c.extend_reserved-2.new.self.items c.text_list-names.result m_is
    read c.requires.body c.len-start.ensures.value c.extend_reserved.ensures.items c.extend_reserved-2.ensures.items).0 in
    c.put_names.ensures
    ∙ ap (λ (b : List ℕ). b ++ names_bytes c.args.message.now.order (length c.extend_reserved-2.new.self.items - c.len-start.result) (kept_names c.args.policy.now c.args.tracker.now c.text_list-names.result))
    (c.extend_reserved-2.ensures.items ∙ ap (λ (b : List ℕ). b ++ 0 ∷ 0 ∷ 0 ∷ 0 ∷ []) c.extend_reserved.ensures.items)
    ∙ grouped c.args.into.now.items front (0 ∷ 0 ∷ 0 ∷ 0 ∷ []) (names_bytes c.args.message.now.order (length c.extend_reserved-2.new.self.items - c.len-start.result) (kept_names c.args.policy.now c.args.tracker.now c.text_list-names.result))
    ∙ ap₂ (λ (o : Order) p. c.args.into.now.items ++ (front ++ (0 ∷ 0 ∷ 0 ∷ 0 ∷ [] ++ names_bytes o p (kept_names c.args.policy.now c.args.tracker.now c.text_list-names.result))))
    (sym (ap (λ (k : Contents). k.order) m_is.contents)) (omega (arith, place, long))
    ∙ ap (λ texts. c.args.into.now.items ++ (front ++ (0 ∷ 0 ∷ 0 ∷ 0 ∷ [] ++ names_bytes m.order (length front + 4) (kept_names c.args.policy.now c.args.tracker.now (texts_or_none texts))))) (sym read)

pub returns-clause-high : goal.returns-clause-high
returns-clause-high c =
    let m = read_as c.args.message.now c.requires.list c.is_spelled.ensures in
    let names = (names-take c.args.message.now m.0 c.len-start.result c.args.body c.args.into.now.items c.extend_reserved.new.self.items c.extend_reserved-2.new.self.items c.text_list-names.result m.1
    (c.text_list-names.ensures (body_at m.0) (array (basic string) ∷ []) m.0.body m.1.read) c.requires.body c.len-start.ensures.value c.extend_reserved.ensures.items c.extend_reserved-2.ensures.items) in
    let fewer = fewer-short (is_kept c.args.policy.now c.args.tracker.now) c.args.message.now.order c.text_list-names.result (length c.extend_reserved-2.new.self.items - c.len-start.result) in
    let front : length (take c.args.body c.args.message.now.bytes.now) ≡ c.args.body = length-take-le c.args.body c.args.message.now.bytes.now (omega (arith, c.requires.body)) in
    omega (
      arith,
      names.1,
      fewer,
      front,
      c.requires.body,
      ap length c.put_names.ensures,
      length-append c.extend_reserved-2.new.self.items (names_bytes c.args.message.now.order (length c.extend_reserved-2.new.self.items - c.len-start.result) (kept_names c.args.policy.now c.args.tracker.now c.text_list-names.result)),
      ap length c.extend_reserved-2.ensures.items,
      length-append c.extend_reserved.new.self.items (0 ∷ 0 ∷ 0 ∷ 0 ∷ []),
      ap length c.extend_reserved.ensures.items,
      length-append c.args.into.now.items (take c.args.body c.args.message.now.bytes.now),
    )

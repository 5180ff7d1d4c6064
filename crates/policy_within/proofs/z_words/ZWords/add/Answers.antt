use Rattle.std.proofs.Common.{◌≡◌, ◌∙◌, ap, sym, map, string_bytes, true, codes}
use Rattle.std.specs.Prelude.{if◌then◌else◌}
use Rattle.dbus_names.specs.Texts.{begins_with}
use Rattle.policy_within.specs.Steps.{with_text}
use Rattle.policy_within.proofs.ZWordLaws.{text-inserted}
use Rattle.policy_within.proofs.z_words.ZWords.add.Goals as goal

pub returns-in_ok-insert : goal.returns-in_ok-insert
returns-in_ok-insert c =
    let begins : begins_with (codes "z") c.args.element.now ≡ true = ap (begins_with (codes "z")) (sym c.as_bytes.ensures.value) ∙ sym c.starts_with.ensures.value ∙ c.if-starts_with.true in
    ap (map (λ k. string_bytes k)) c.in_ok-insert.ensures.keys
    ∙ text-inserted c.self.inside.words.keys c.in_ok-from_str.field-0 c.args.element.now c.in_ok-from_str.ensures.ok
    ∙ ap (λ ws. with_text ws c.args.element.now) c.self.view_is
    ∙ ap (λ b. if b then with_text c.args.self.now c.args.element.now else c.args.self.now) (sym begins)

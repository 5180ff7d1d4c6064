use Rattle.std.proofs.Common.{◌≡◌, ◌∙◌, ◌-◌, ℕ, length, take, drop, sym, ap, subst, arith}
use Rattle.std.proofs.lemmas.Str.{is_utf8-from_IsUtf8}
use Rattle.std.specs.Str.{is_utf8}
use Rattle.dbus_header.specs.KnownHeaders.{BeginsIn, HasText, OfText}
use Rattle.dbus_header.proofs.KnownHeaders.{some_is}
use Rattle.dbus_header.proofs.spans.text_span.Goals as goal

pub returns-in-Some-clause-within : goal.returns-in-Some-clause-within
returns-in-Some-clause-within c = λ s at.
    let b = c.args.bytes.now in
    let begins : BeginsIn b c.args.start c.in-Some.text.now = subst (OfText (BeginsIn b) c.args.start) c.in-Some.is c.requires.begins in
    let text = c.as_bytes-text.ensures.value in
    let len : length c.as_bytes-text.result.now ≡ length c.in-Some.text.now = ap length text in
    let inside = begins.inside in
    subst (HasText b) (some_is _ s at)
    (record {
      inside = omega (arith, inside, len);
      utf8 = ap (λ (k : ℕ). is_utf8 (take k (drop (c.args.start - 16) b))) len
          ∙ ap is_utf8 (begins.is ∙ sym text)
          ∙ is_utf8-from_IsUtf8 c.as_bytes-text.result.now c.as_bytes-text.ensures.utf8;
    })

use Rattle.std.proofs.Common.{◌≡◌, ℕ, suc, ◌-◌, ◌+◌, List, length, drop, Option, option_map, ap, sym, ◌∙◌, arith}
use Rattle.message_text.specs.Reading.{Bytes, read_fields, signature_in, or_else, with_gap}
use Rattle.message_text.proofs.ReadSteps.{field_read, field_unread, fields_end, fields_over, fields_left}
use Rattle.message_text.proofs.read_message.fields.Goals as goal

pub returns : goal.returns
returns c = fields_over c.args.order c.loop-most.most (option_map (λ v. v.items) c.loop-most.types) c.loop-most.out.items c.loop-most.rest.now (omega arith) ∙ c.loop-most.invariant

pub loop-most-preserved : goal.loop-most-preserved
loop-most-preserved c =
    let old : Option (List ℕ) = option_map (λ v. v.items) c.loop-most.types in
    let out = c.field.new.out.items in
    let x : ℕ × Bytes = (c.in-Some.found.0, (out, c.in-Some.found.1.now)) in
    let types : option_map (λ v. v.items) c.keep_types.new.types ≡ or_else old (signature_in c.in-Some.found.0 (drop (length (with_gap 8 c.loop-most.out.items) + 1) out)) = cc c.in_ok-keep_types.ensures in
    ap (λ (ts : Option (List ℕ)). read_fields c.args.order (c.loop-most.most - 1) ts out c.in-Some.found.1.now) types
    ∙ field_read c.args.order c.loop-most.most old c.loop-most.out.items c.loop-most.rest.now x c.loop-most-test.true (sym c.starts_with.ensures.value ∙ c.if-starts_with.false)
    (sym c.in_ok-found.ensures ∙ ap (option_map (λ y. (y.0, (out, y.1.now)))) c.in-Some.is)
    ∙ c.loop-most.invariant

pub loop-most-init : goal.loop-most-init
loop-most-init c =
    let more : length c.args.text.now + 1 ≡ suc (length c.args.text.now) = omega arith in
    ap (λ (n : ℕ). read_fields c.args.order n (option_map (λ v. v.items) c.args.types.now) c.args.out.now.items c.args.text.now) more

pub returns-then-starts_with : goal.returns-then-starts_with
returns-then-starts_with c =
    let types : Option (List ℕ) = option_map (λ v. v.items) c.loop-most.types in
    ap (fields_left types c.loop-most.out.items) c.suffix.ensures
    ∙ fields_end c.args.order c.loop-most.most types c.loop-most.out.items c.loop-most.rest.now c.loop-most-test.true (sym c.starts_with.ensures.value ∙ c.if-starts_with.true)
    ∙ c.loop-most.invariant

pub returns-in-None : goal.returns-in-None
returns-in-None c =
    let types : Option (List ℕ) = option_map (λ v. v.items) c.loop-most.types in
    field_unread c.args.order c.loop-most.most types c.loop-most.out.items c.loop-most.rest.now c.loop-most-test.true (sym c.starts_with.ensures.value ∙ c.if-starts_with.false)
    (sym c.in_ok-found.ensures ∙ ap (option_map (λ y. (y.0, (c.field.new.out.items, y.1.now)))) c.in-None.is)
    ∙ c.loop-most.invariant

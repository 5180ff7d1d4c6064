use Rattle.std.proofs.Common.{List, ℕ, ◌++◌, Bool, cond, Option, None, ap, sym, ◌∙◌}
use Rattle.byte_lists.proofs.Options.{some}
use Rattle.dbus_values.specs.Reading.{◌>>=◌}
use Rattle.dbus_values.specs.declared.Order.{Order}
use Rattle.message_text.specs.MessageText.{Text}
use Rattle.message_text.specs.Reading.{head_bytes, read_rest, read_message}
use Rattle.message_text.proofs.read_message.message.Goals as goal

abbrev after_first : Option ((Order × List ℕ) × Text) → Option (List ℕ)
after_first q = q >>= λ x. read_rest x.0.0 x.0.1 x.1

pub returns-in-None : goal.returns-in-None
unfolding read_message
returns-in-None c = ap after_first c.in-None.ensures

pub returns-then-branch : goal.returns-then-branch
unfolding read_message
returns-then-branch c =
    let h = c.in-Some.found.0 in
    let out = c.after_head.new.out.items in
    ap (λ (b : Bool). cond b (some out) None) (sym c.if-branch.true)
    ∙ c.in_ok-after_head.ensures
    ∙ ap (λ (t : List ℕ). read_rest h.order t c.in-Some.found.1.now) (c.in_ok-put_head.ensures ∙ ap (λ (t : List ℕ). t ++ head_bytes h.order h.kind h.flags h.serial) c.new-out.ensures.items)
    ∙ ap after_first c.in-Some.ensures

pub returns-else-branch : goal.returns-else-branch
unfolding read_message
returns-else-branch c =
    let h = c.in-Some.found.0 in
    let out = c.after_head.new.out.items in
    ap (λ (b : Bool). cond b (some out) None) (sym c.if-branch.false)
    ∙ c.in_ok-after_head.ensures
    ∙ ap (λ (t : List ℕ). read_rest h.order t c.in-Some.found.1.now) (c.in_ok-put_head.ensures ∙ ap (λ (t : List ℕ). t ++ head_bytes h.order h.kind h.flags h.serial) c.new-out.ensures.items)
    ∙ ap after_first c.in-Some.ensures

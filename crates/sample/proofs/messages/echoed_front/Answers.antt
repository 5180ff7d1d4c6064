use Rattle.std.proofs.Common.{ℕ, List, [], ◌∷◌, ◌++◌, ◌∙◌, ap, sym}
use Rattle.dbus_values.specs.declared.Order.TheVariants.{Little}
use Rattle.dbus_header.specs.Message.{with_number}
use Rattle.sample.specs.declared.messages.TheConstants.{ECHOED}
use Rattle.sample.specs.Fronts.{with_numbers}
use Rattle.sample.proofs.MessageBytes.{echoed_bytes}
use Rattle.sample.proofs.messages.echoed_front.Goals as goal

pub returns : goal.returns
returns c = λ t long.
    ap (λ (f : List ℕ). f ++ (t ++ 0 ∷ [])) (c.set_numbers.ensures ∙ ap (with_numbers 64 c.args.serial c.args.text_len) c.write_u32.ensures ∙ ap (λ n. with_numbers 64 c.args.serial n (with_number Little 20 c.args.reply ECHOED)) (sym long))
    ∙ echoed_bytes c.args.reply c.args.serial t

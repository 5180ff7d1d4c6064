use Rattle.std.proofs.Common.{ℕ, ◌-◌, List, option_map, ap, sym, ◌∙◌, arith}
use Rattle.message_text.specs.Reading.{hex_bytes}
use Rattle.message_text.specs.Seen.{number_seen}
use Rattle.message_text.proofs.ReadSteps.{hex_none, hex_read, hex_unread}
use Rattle.message_text.proofs.basic_values.hex_bytes.Goals as goal

pub returns-in-None : goal.returns-in-None
returns-in-None c =
    hex_unread c.loop-left.left c.loop-left.out.items c.loop-left.rest.now c.loop-left-test.true (sym c.hex_byte.ensures ∙ ap (option_map number_seen) c.in-None.is)
    ∙ c.loop-left.invariant

pub loop-left-preserved : goal.loop-left-preserved
loop-left-preserved c =
    ap (λ (out : List ℕ). hex_bytes (c.loop-left.left - 1) out c.in-Some.found.1.now) c.in_ok-push.ensures.items
    ∙ hex_read c.loop-left.left c.loop-left.out.items c.loop-left.rest.now (number_seen c.in-Some.found) c.loop-left-test.true (sym c.hex_byte.ensures ∙ ap (option_map number_seen) c.in-Some.is)
    ∙ c.loop-left.invariant

pub returns : goal.returns
returns c = hex_none c.loop-left.left c.loop-left.out.items c.loop-left.rest.now (omega arith) ∙ c.loop-left.invariant

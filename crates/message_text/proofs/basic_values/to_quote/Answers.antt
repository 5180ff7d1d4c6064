use Rattle.std.proofs.Common.{ℕ, ◌-◌, List, option_map, ap, sym, ◌∙◌, arith}
use Rattle.message_text.specs.Reading.{bytes_to_quote}
use Rattle.message_text.specs.Seen.{number_seen}
use Rattle.message_text.proofs.ReadSteps.{byte_read, byte_unread, bytes_over}
use Rattle.message_text.proofs.basic_values.to_quote.Goals as goal

pub returns-in-None : goal.returns-in-None
returns-in-None c =
    byte_unread c.loop-most.most c.loop-most.out.items c.loop-most.rest.now c.loop-most-test.true (grind arith) (sym c.byte.ensures ∙ ap (option_map number_seen) c.in-None.is)
    ∙ c.loop-most.invariant

pub loop-most-preserved : goal.loop-most-preserved
loop-most-preserved c =
    ap (λ (out : List ℕ). bytes_to_quote (c.loop-most.most - 1) out c.in-Some.found.1.now) c.in_ok-push.ensures.items
    ∙ byte_read c.loop-most.most c.loop-most.out.items c.loop-most.rest.now (number_seen c.in-Some.found) c.loop-most-test.true (grind arith) (sym c.byte.ensures ∙ ap (option_map number_seen) c.in-Some.is)
    ∙ c.loop-most.invariant

pub returns : goal.returns
returns c = bytes_over c.loop-most.most c.loop-most.out.items c.loop-most.rest.now (omega arith) ∙ c.loop-most.invariant

use Rattle.std.proofs.Common.{refl}
use Rattle.proxy_loop.specs.Tables.{table_of}
use Rattle.proxy_loop.proofs.LinkFronts.{new_empty, empty_serves, empty_wished, empty_sound}
use Rattle.proxy_loop.proofs.line_server.Server.new.Goals as goal

pub returns-clause-empty : goal.returns-clause-empty
returns-clause-empty c = new_empty (record { accepted = 0; running = c.new.result }) c.new.ensures.empty refl

pub returns-clause-serves : goal.returns-clause-serves
returns-clause-serves c = λ journal w.
    empty_serves _ (table_of (record { accepted = 0; running = c.new.result })) journal (new_empty (record { accepted = 0; running = c.new.result }) c.new.ensures.empty refl) w

pub returns-clause-wished : goal.returns-clause-wished
returns-clause-wished c = λ net.
    empty_wished (table_of (record { accepted = 0; running = c.new.result })) net (new_empty (record { accepted = 0; running = c.new.result }) c.new.ensures.empty refl)

pub invariant_of-result-clause-sound : goal.invariant_of-result-clause-sound
invariant_of-result-clause-sound c =
    empty_sound _ (table_of (record { accepted = 0; running = c.new.result })) (new_empty (record { accepted = 0; running = c.new.result }) c.new.ensures.empty refl)

use Rattle.std.proofs.Common.{ℕ, List, ap, sym, ◌∙◌}
use Rattle.byte_lists.proofs.Options.{some}
use Rattle.dbus_values.specs.Reading.{At}
use Rattle.dbus_values.specs.Walk.{walk_basic}
use Rattle.dbus_values.specs.Seen.{place_seen}
use Rattle.dbus_values.proofs.Walks.{basic_at_once, variant_at_once}
use Rattle.dbus_values.proofs.containers.walk_at_once.Goals as goal

pub returns-in_ok-behind : goal.returns-in_ok-behind
returns-in_ok-behind c =
    basic_at_once c.args.order c.args.containers c.args.types.now (place_seen c.args.at) (place_seen c.in_ok-behind.behind) c.if-containers-gt0.true (λ e. c.if-code-ne118.true (c.front_code-code.ensures ∙ e))
    (ap (λ (d : ℕ). walk_basic c.args.order d (place_seen c.args.at)) (sym c.front_code-code.ensures) ∙ sym c.in_ok-behind.ensures)
    ∙ ap (λ (r : List ℕ). some {A = List ℕ × At} (r, place_seen c.in_ok-behind.behind)) (sym c.behind_code-others.ensures)

pub returns-in_ok-behind-2 : goal.returns-in_ok-behind-2
returns-in_ok-behind-2 c =
    variant_at_once c.args.order c.args.containers c.in_ok-code.code c.args.types.now (place_seen c.args.at) (place_seen c.in_ok-code.value) (place_seen c.in_ok-behind-2.behind) (sym c.front_code-code.ensures ∙ c.if-code-eq118.true) c.if-containers-gt1.true c.in_ok-code.ensures.number c.in_ok-code.ensures.read (sym c.in_ok-behind-2.ensures)
    ∙ ap (λ (r : List ℕ). some {A = List ℕ × At} (r, place_seen c.in_ok-behind-2.behind)) (sym c.behind_code-others.ensures)

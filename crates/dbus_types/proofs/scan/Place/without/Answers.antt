use Rattle.std.proofs.Common.{◌≡◌, ◌+◌, ◌-◌, ap, sym, ◌∙◌, arith, reverse, take}
use Rattle.std.specs.Prelude.{option_and_then, Some}
use Rattle.dbus_types.specs.Scan.{with_last}
use Rattle.dbus_types.proofs.PlaceLaws.{with_last_taken}
use Rattle.dbus_types.proofs.scan.Place.without.Goals as goal

pub returns-clause-levels : goal.returns-clause-levels
returns-clause-levels c =
    let before : c.args.self.depth ≡ c.args.self.depth - 1 + 1 = omega arith in
    ap (λ l. Some (l, reverse (take (c.args.self.depth - 1) c.args.outer.now))) c.with_type.ensures
    ∙ sym (with_last_taken c.in_ok-shape.shape c.args.outer.now c.args.self.depth (c.args.self.depth - 1) _ before c.requires)
    ∙ ap (option_and_then (λ t. with_last t (reverse (take c.args.self.depth c.args.outer.now)))) (sym c.in_ok-shape.was)

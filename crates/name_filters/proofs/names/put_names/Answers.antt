use Rattle.std.proofs.Common.{◌≡◌, ◌-◌, ◌∷◌, true, false, List, ℕ, length, ap, sym, ◌∙◌, arith, length-append}
use Rattle.dbus_names.specs.Texts.{Text}
use Rattle.policy_args.specs.Policy.{at_least}
use Rattle.policy_args.specs.declared.Level.TheVariants.{See}
use Rattle.name_filters.specs.Names.{is_kept, names_bytes}
use Rattle.name_filters.proofs.NameBytes.{dropped-step, ended, first-of, kept-left, kept-step, one, without-first}
use Rattle.name_filters.proofs.names.put_names.Goals as goal

pub loop-name-preserved-then-is_at_least : goal.loop-name-preserved-then-is_at_least
loop-name-preserved-then-is_at_least c =
    let name = c.in-Some.name.now in
    let names = c.next.new.self in
    let items = c.loop-name.into.items in
    let place = length items - c.args.start in
    let test = is_kept c.args.policy.now c.args.tracker.now in
    let before : c.loop-name.name-iterator ≡ name ∷ names = first-of c.loop-name.name-iterator name c.in-Some.ensures.steps.0 ∙ ap (λ ns. name ∷ ns) (sym c.in-Some.ensures.steps.1) in
    let keeps : test name ≡ true = ap (at_least See) (sym c.level.ensures.kept) ∙ sym c.is_at_least.ensures ∙ c.if-is_at_least.true in
    let left = kept-left c.args.order c.args.start items name names c.loop-name.invariant.low in
    let now = ap (λ (b : List ℕ). length (names_bytes c.args.order (length b - c.args.start) names)) c.put_name.ensures.name in
    let was = ap (λ (ns : List Text). length (names_bytes c.args.order place ns)) before in
    record {
      built = ap (λ (b : List ℕ). ended test c.args.order c.args.start b names) c.put_name.ensures.name
          ∙ kept-step test c.args.order c.args.start items name names c.loop-name.invariant.low keeps
          ∙ ap (λ (ns : List Text). ended test c.args.order c.args.start items ns) (sym before)
          ∙ c.loop-name.invariant.built;
      low = omega (arith, ap length c.put_name.ensures.name, length-append items (one c.args.order place name), c.loop-name.invariant.low);
      room = omega (arith, now, left, was, c.loop-name.invariant.room, c.put_name.ensures.spare);
      short = omega (arith, now, left, was, c.loop-name.invariant.short);
    }

pub loop-name-preserved : goal.loop-name-preserved
loop-name-preserved c =
    let name = c.in-Some.name.now in
    let names = c.next.new.self in
    let items = c.loop-name.into.items in
    let place = length items - c.args.start in
    let test = is_kept c.args.policy.now c.args.tracker.now in
    let before : c.loop-name.name-iterator ≡ name ∷ names = first-of c.loop-name.name-iterator name c.in-Some.ensures.steps.0 ∙ ap (λ ns. name ∷ ns) (sym c.in-Some.ensures.steps.1) in
    let drops : test name ≡ false = ap (at_least See) (sym c.level.ensures.kept) ∙ sym c.is_at_least.ensures ∙ c.if-is_at_least.false in
    let fewer = without-first c.args.order name names place in
    let was = ap (λ (ns : List Text). length (names_bytes c.args.order place ns)) before in
    record {
      built = dropped-step test c.args.order c.args.start items name names drops
          ∙ ap (λ (ns : List Text). ended test c.args.order c.args.start items ns) (sym before)
          ∙ c.loop-name.invariant.built;
      low = c.loop-name.invariant.low;
      room = omega (arith, fewer, was, c.loop-name.invariant.room);
      short = omega (arith, fewer, was, c.loop-name.invariant.short);
    }

use Rattle.std.proofs.Common.{◌≡◌, ◌∷◌, true, ap, sym, ◌∙◌}
use Rattle.std.proofs.lemmas.List.Elements.{All-push, All-same}
use Rattle.dbus_names.specs.Names.{is_well_known}
use Rattle.own_calls.proofs.ListedCalls.{asked-more, asked-well-known, first-of, passed-over, read-all}
use Rattle.own_calls.proofs.listed.asked.Goals as goal

pub loop-name-preserved-in-Continue-1 : goal.loop-name-preserved-in-Continue-1
loop-name-preserved-in-Continue-1 c =
    let name = c.in-Some.name in
    let items = c.loop-name.asked.items in
    let is = sym c.is_asked.ensures ∙ c.if-is_asked.true in
    let before : c.loop-name.name-iterator ≡ name.now ∷ c.next.new.self =
    first-of c.loop-name.name-iterator name.now c.in-Some.ensures.steps.0 ∙ ap (λ ns. name.now ∷ ns) (sym c.in-Some.ensures.steps.1) in
    record {
      listed = asked-more c.args.policy.now items name c.loop-name.name-iterator c.next.new.self c.push.new.self.items is c.in_ok-push.ensures.items before ∙ c.loop-name.invariant.listed;
      well_known = All-same (λ n. is_well_known n.now ≡ true) _ _ c.in_ok-push.ensures.items
          (All-push (λ n. is_well_known n.now ≡ true) items name c.loop-name.invariant.well_known (asked-well-known c.args.policy.now name.now is));
    }

pub loop-name-preserved : goal.loop-name-preserved
loop-name-preserved c =
    let name = c.in-Some.name.now in
    let before : c.loop-name.name-iterator ≡ name ∷ c.next.new.self =
    first-of c.loop-name.name-iterator name c.in-Some.ensures.steps.0 ∙ ap (λ ns. name ∷ ns) (sym c.in-Some.ensures.steps.1) in
    record {
      listed = passed-over c.args.policy.now c.loop-name.asked.items name c.loop-name.name-iterator c.next.new.self (sym c.is_asked.ensures ∙ c.if-is_asked.false) before ∙ c.loop-name.invariant.listed;
      well_known = c.loop-name.invariant.well_known;
    }

pub returns-clause-asked : goal.returns-clause-asked
returns-clause-asked c = read-all c.args.policy.now c.loop-name.asked.items c.loop-name.name-iterator c.in-None.ensures.steps.0 ∙ c.loop-name.invariant.listed

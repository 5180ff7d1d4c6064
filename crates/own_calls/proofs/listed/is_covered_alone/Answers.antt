use Rattle.std.proofs.Common.{ap, ap₂, sym, ◌∙◌, ◌&&◌}
use Rattle.std.specs.Prelude.{not}
use Rattle.std.specs.List.{list_any}
use Rattle.own_calls.specs.Asked.{is_named_by}
use Rattle.own_calls.proofs.Covering.{covered-alone}
use Rattle.own_calls.proofs.listed.is_covered_alone.Goals as goal

pub returns-then-covers : goal.returns-then-covers
returns-then-covers c =
    ap₂ (λ a b. a && not b) (sym c.if-covers.true) c.names.ensures
    ∙ ap (λ a. a && not (list_any (is_named_by c.args.name.now) c.args.policy.now.entries)) c.covers.ensures
    ∙ covered-alone c.args.policy.now.entries c.args.name.now

pub returns-else-covers : goal.returns-else-covers
returns-else-covers c =
    c.if-covers.false
    ∙ ap (λ a. a && not (list_any (is_named_by c.args.name.now) c.args.policy.now.entries)) (sym c.if-covers.false ∙ c.covers.ensures)
    ∙ covered-alone c.args.policy.now.entries c.args.name.now

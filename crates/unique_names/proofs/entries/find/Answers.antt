use Rattle.std.proofs.Common.{◌≡◌, ◌-◌, ◌∙◌, length, drop, Option, ℕ, ap, ap₂, sym, subst, arith}
use Rattle.policy_args.specs.Covering.{next_covering}
use Rattle.unique_names.specs.Merged.{first_known, lesser_of, merged_from}
use Rattle.unique_names.proofs.Merging.{IsFound, first-found, found-is, found-within}
use Rattle.unique_names.proofs.entries.find.Goals as goal

pub returns-clause-found : goal.returns-clause-found
returns-clause-found g c =
    let name = c.args.name.now in
    let whole = c.args.policy.now.entries in
    let merged = merged_from name c.args.from (drop (c.args.from - 1) whole) c.args.known.now in
    let is : c.lesser.result ≡ lesser_of (first_known c.args.known.now c.args.from (length whole)) (next_covering whole name c.args.from) =
    c.lesser.ensures ∙ ap₂ lesser_of (c.first_within.ensures ∙ ap (first_known c.args.known.now c.args.from) c.len.ensures.count) c.next_covering-covering.ensures.next in
    found-is name whole (length whole) c.args.from merged c.args.known.now c.lesser.result
    (subst (λ (o : Option ℕ). IsFound name whole (length whole) c.args.from merged c.args.known.now o) (sym is) (first-found name whole c.args.from c.args.known.now c.requires.low))

pub returns-clause-within : goal.returns-clause-within
returns-clause-within g c =
    let name = c.args.name.now in
    let whole = c.args.policy.now.entries in
    let merged = merged_from name c.args.from (drop (c.args.from - 1) whole) c.args.known.now in
    let is : c.lesser.result ≡ lesser_of (first_known c.args.known.now c.args.from (length whole)) (next_covering whole name c.args.from) =
    c.lesser.ensures ∙ ap₂ lesser_of (c.first_within.ensures ∙ ap (first_known c.args.known.now c.args.from) c.len.ensures.count) c.next_covering-covering.ensures.next in
    found-within name whole (length whole) c.args.from merged c.args.known.now c.lesser.result (omega (arith, c.len.ensures))
    (subst (λ (o : Option ℕ). IsFound name whole (length whole) c.args.from merged c.args.known.now o) (sym is) (first-found name whole c.args.from c.args.known.now c.requires.low))

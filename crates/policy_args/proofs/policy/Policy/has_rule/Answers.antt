use Rattle.std.proofs.Common.{◌≡◌, ◌≤◌, length, ap, sym, ◌∙◌}
use Rattle.std.specs.List.{list_all, list_any}
use Rattle.policy_args.specs.Covering.{is_number, passes_at}
use Rattle.policy_args.specs.Requests.{has_entry, rule_matches}
use Rattle.policy_args.proofs.EntryNumbers.{covering-within, first-positive, found-by-covering, found-first}
use Rattle.policy_args.proofs.policy.Policy.has_rule.Goals as goal

pub loop-number-init : goal.loop-number-init
loop-number-init c =
    let policy = c.args.self.now in
    let asked = c.args.asked.now in
    let numbers = c.covering-number-items.result in
    let same : c.into_iter-number-iterator.result ≡ numbers = c.into_iter-number-iterator.ensures.into_iter_gives in (
      tt,
      tt,
      ap (list_all (is_number (length policy.entries))) same ∙ covering-within policy.entries c.name.result.now numbers c.covering-number-items.ensures,
      ap (list_any (passes_at (λ e. rule_matches asked e.grant) policy.entries)) same
          ∙ found-by-covering policy.entries c.name.result.now numbers (λ e. rule_matches asked e.grant) c.covering-number-items.ensures
          ∙ ap (λ name. has_entry policy name (rule_matches asked)) c.name.ensures,
    )

pub returns-then-matches : goal.returns-then-matches
returns-then-matches c =
    let entries = c.args.self.now.entries in
    let asked = c.args.asked.now in
    let low : 1 ≤ c.in-Some.number = first-positive (length entries) c.in-Some.number c.next.new.self (ap (list_all (is_number (length entries))) (sym c.in-Some.ensures.steps) ∙ c.loop-number.invariant.2) in
    found-first entries (λ e. rule_matches asked e.grant) c.in-Some.number c.entry.result.now c.next.new.self low c.entry.ensures (sym c.matches.ensures ∙ c.if-matches.true)
    ∙ ap (list_any (passes_at (λ e. rule_matches asked e.grant) entries)) (sym c.in-Some.ensures.steps)
    ∙ c.loop-number.invariant.3

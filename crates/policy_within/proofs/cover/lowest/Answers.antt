use Rattle.std.proofs.Common.{◌≡◌, ◌∙◌, ℕ, ap, sym, true, length, fold, None, List, ◌∷◌}
use Rattle.std.specs.List.{list_all}
use Rattle.std.specs.Prelude.{if◌then◌else◌}
use Rattle.std.proofs.lemmas.Bool.{and_parts}
use Rattle.byte_lists.proofs.Options.{some}
use Rattle.policy_args.specs.Covering.{AreCovering, is_number, passes_at}
use Rattle.policy_args.specs.Requests.{asked_name, grant_permits}
use Rattle.policy_args.specs.declared.entry.Entry.{Entry}
use Rattle.policy_within.specs.Steps.{with_lower}
use Rattle.policy_within.proofs.Lowest.{lowest-found}
use Rattle.policy_within.proofs.cover.lowest.Goals as goal

left : (count n : ℕ) (rest numbers : List ℕ) → numbers ≡ n ∷ rest → list_all (is_number count) numbers ≡ true → (is_number count n ≡ true) × (list_all (is_number count) rest ≡ true)
left count n rest numbers e h = and_parts (is_number count n) (list_all (is_number count) rest) (ap (list_all (is_number count)) (sym e) ∙ h)

pub loop-number-init : goal.loop-number-init
loop-number-init c =
    let entries = c.args.policy.now.entries in
    let numbers = c.covering-number-items.result in
    let same : c.into_iter-number-iterator.result ≡ numbers = c.into_iter-number-iterator.ensures.into_iter_gives in
    let covering : AreCovering entries (asked_name c.args.asked.now) numbers = rw (← c.name.ensures) c.covering-number-items.ensures in (
      tt,
      tt,
      ap (list_all (is_number (length entries))) same ∙ c.covering_numbers_have_entries.ensures entries (asked_name c.args.asked.now) numbers covering,
      ap (fold (with_lower (passes_at (λ (e : Entry). grant_permits e.grant c.args.asked.now) entries)) None) same ∙ lowest-found entries c.args.asked.now numbers covering,
    )

pub is_lower-requires : goal.is_lower-requires
is_lower-requires c = (left (length c.args.policy.now.entries) c.in-Some.number c.next.new.self c.loop-number.number-iterator c.in-Some.ensures.steps c.loop-number.invariant.2).0

pub loop-number-preserved-then-is_lower : goal.loop-number-preserved-then-is_lower
loop-number-preserved-then-is_lower c =
    let entries = c.args.policy.now.entries in
    let step = with_lower (passes_at (λ (e : Entry). grant_permits e.grant c.args.asked.now) entries) in (
      tt,
      tt,
      (left (length entries) c.in-Some.number c.next.new.self c.loop-number.number-iterator c.in-Some.ensures.steps c.loop-number.invariant.2).1,
      ap (λ b. fold step (if b then some c.in-Some.number else c.loop-number.least) c.next.new.self) (sym (sym c.is_lower.ensures ∙ c.if-is_lower.true))
          ∙ ap (fold step c.loop-number.least) (sym c.in-Some.ensures.steps) ∙ c.loop-number.invariant.3,
    )

pub loop-number-preserved : goal.loop-number-preserved
loop-number-preserved c =
    let entries = c.args.policy.now.entries in
    let step = with_lower (passes_at (λ (e : Entry). grant_permits e.grant c.args.asked.now) entries) in (
      tt,
      tt,
      (left (length entries) c.in-Some.number c.next.new.self c.loop-number.number-iterator c.in-Some.ensures.steps c.loop-number.invariant.2).1,
      ap (λ b. fold step (if b then some c.in-Some.number else c.loop-number.least) c.next.new.self) (sym (sym c.is_lower.ensures ∙ c.if-is_lower.false))
          ∙ ap (fold step c.loop-number.least) (sym c.in-Some.ensures.steps) ∙ c.loop-number.invariant.3,
    )

use Rattle.std.proofs.Common.{◌≡◌, ◌∙◌, ℕ, zero, suc, ◌-◌, ◌≤◌, nat_le, List, length, ap, sym, slice_get, arith}
use Rattle.std.specs.Prelude.{◌&&◌}
use Rattle.std.proofs.lemmas.Bool.{and_parts, leb-true}
use Rattle.policy_args.specs.Covering.{passes, passes_at}
use Rattle.policy_args.specs.Policy.{entry_at}
use Rattle.policy_args.specs.Requests.{grant_permits}
use Rattle.policy_args.specs.declared.entry.Entry.{Entry}
use Rattle.policy_within.proofs.cover.is_lower.Goals as goal

at-number : (entries : List Entry) (n : ℕ) → 1 ≤ n → slice_get entries (n - 1) ≡ entry_at entries n
at-number entries zero low = absurd (omega (arith, low))
at-number entries (suc n) low = let same : suc n - 1 ≡ n = omega arith in ap (slice_get entries) same

pub returns-then-is_below : goal.returns-then-is_below
returns-then-is_below c =
    let entries = c.args.policy.now.entries in
    let low : 1 ≤ c.args.number = leb-true 1 c.args.number (and_parts (nat_le 1 c.args.number) (nat_le c.args.number (length entries)) c.requires).0 in
    let here = ap (passes (λ (e : Entry). grant_permits e.grant c.args.asked.now)) (sym c.entry.ensures ∙ at-number entries c.args.number low) in
    c.permits.ensures ∙ here ∙ ap (λ b. b && passes_at (λ (e : Entry). grant_permits e.grant c.args.asked.now) entries c.args.number) (sym (sym c.is_below.ensures ∙ c.if-is_below.true))

use Rattle.std.proofs.Common.{List, ℕ, length, sym, subst, ◌∙◌}
use Rattle.unique_names.specs.Taught.{AreNumbers}
use Rattle.unique_names.proofs.Learned.{exact-entries, kept-within}
use Rattle.unique_names.proofs.tracker.Tracker.entries.Goals as goal

pub returns-clause-exact : goal.returns-clause-exact
returns-clause-exact c = λ facts taught.
    c.entries_of.ensures.numbers ∙ exact-entries c.args.self.now c.args.policy.now facts c.args.name.now (c.covers_no_unique_name.ensures c.args.name.now) taught

pub returns-clause-within : goal.returns-clause-within
returns-clause-within c = λ fits.
    subst (λ (ns : List ℕ). AreNumbers (length c.args.policy.now.entries) ns) (sym c.entries_of.ensures.numbers) (kept-within c.args.self.now c.args.policy.now c.args.name.now fits)

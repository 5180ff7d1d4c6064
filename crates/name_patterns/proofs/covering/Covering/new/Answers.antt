use Rattle.std.proofs.Common.{List, ℕ, ◌++◌, ◌∷◌, sym, subst}
use Rattle.name_patterns.specs.PatternIndex.{places_below, prefixes}
use Rattle.name_patterns.specs.Ranks.{AreCovering}
use Rattle.name_patterns.proofs.NamePrefixes.{covering-found}
use Rattle.name_patterns.proofs.covering.Covering.new.Goals as goal

pub returns : goal.returns
returns c = λ added is.
    subst (λ (ks : List ℕ). AreCovering added c.args.name.now (ks ++ places_below c.args.index.now (c.args.name.now ∷ prefixes c.args.name.now)))
    (sym c.exact_places.ensures) (covering-found added c.args.index.now is c.args.name.now)

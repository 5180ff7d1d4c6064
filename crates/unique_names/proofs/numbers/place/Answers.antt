use Rattle.unique_names.proofs.Ascending.{place-found}
use Rattle.unique_names.proofs.numbers.place.Goals as goal

pub returns : goal.returns
returns c = place-found 1 c.args.number c.args.numbers.now c.binary_search.result c.requires c.binary_search.ensures.position

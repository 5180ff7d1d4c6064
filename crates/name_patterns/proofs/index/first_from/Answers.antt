use Rattle.std.proofs.Common.{◌≡◌, ◌∙◌, nat_lt, slice_get, arith, rules}
use Rattle.std.proofs.lemmas.Grind.{common_steps}
use Rattle.std.proofs.lemmas.Option.{slice_get_cases}
use Rattle.std.proofs.lemmas.List.Sorted.{IsPartitionPoint-from_clause}
use Rattle.name_patterns.proofs.NextPlaces.{found-at}
use Rattle.name_patterns.proofs.index.first_from.Goals as goal

pub returns : goal.returns
returns c = λ parted.
    let point = IsPartitionPoint-from_clause (λ k. nat_lt k c.args.from) c.args.places.now c.partition_point-at.result c.partition_point-at.ensures.partitioned parted (λ a r q k. search rules) in
    let got : c.copied.result ≡ slice_get c.args.places.now c.partition_point-at.result = grind (arith, common_steps, slice_get_cases c.args.places.now c.partition_point-at.result) in
    got ∙ found-at c.args.from c.args.places.now c.partition_point-at.result point.0 point.1

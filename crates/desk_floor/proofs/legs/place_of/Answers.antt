use Rattle.std.proofs.Common.{rules}
use Rattle.std.proofs.lemmas.List.Sorted.{IsPartitionPoint-from_clause}
use Rattle.desk_floor.specs.Legs.{is_before}
use Rattle.desk_floor.proofs.legs.place_of.Goals as goal

pub returns-clause-halves : goal.returns-clause-halves
returns-clause-halves c = λ parted. IsPartitionPoint-from_clause (λ leg. is_before leg.id c.args.id) c.args.legs.now
    c.partition_point.result c.partition_point.ensures.partitioned parted (λ a r f k. search rules)

use Rattle.std.proofs.Common.{nat_lt, arith, rules}
use Rattle.std.proofs.lemmas.List.Sorted.{IsPartitionPoint-from_clause, IsPartitionedBy-ltb}
use Rattle.resend.specs.declared.sent.Sent.{Sent}
use Rattle.resend.proofs.Leading.{leading-is}
use Rattle.resend.proofs.legs.ordinals_below.Goals as goal

pub returns : goal.returns
returns c =
    let test = λ (x : Sent). nat_lt x.ordinal c.args.ordinal in
    let parted = IsPartitionedBy-ltb (λ (x : Sent). x.ordinal) _ c.args.ordinal c.requires in
    let point = IsPartitionPoint-from_clause test _ _ c.partition_point.ensures.partitioned parted (λ a r q k. search rules) in
    leading-is test _ _ c.partition_point.ensures.bound (λ k d lt. point.0 k d (omega arith) lt) (λ k d le lt. point.1 k d le lt)

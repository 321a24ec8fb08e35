use Rattle.std.proofs.Common.{nat_le, ◌+◌, arith, rules}
use Rattle.std.proofs.lemmas.List.Sorted.{IsPartitionPoint-from_clause, IsPartitionedBy-leb}
use Rattle.resend.specs.declared.run.Run.{Run}
use Rattle.resend.proofs.Leading.{leading-is}
use Rattle.resend.proofs.runs.runs_ended.Goals as goal

pub returns : goal.returns
returns c =
    let test = λ (x : Run). nat_le (x.first_ordinal + x.count) c.args.ordinal in
    let parted = IsPartitionedBy-leb (λ (x : Run). x.first_ordinal + x.count) _ c.args.ordinal c.requires in
    let point = IsPartitionPoint-from_clause test _ _ c.partition_point.ensures.partitioned parted (λ a r q k. search rules) in
    leading-is test _ _ c.partition_point.ensures.bound (λ k d lt. point.0 k d (omega arith) lt) (λ k d le lt. point.1 k d le lt)

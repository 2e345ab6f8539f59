use Rattle.std.proofs.Common.{rules, leb}
use Rattle.std.proofs.lemmas.List.Sorted.{IsPartitionPoint-from_clause}
use Rattle.stamp.proofs.Begun.{parted, one_begun, last_begun}
use Rattle.stamp.proofs.calendar.month_of.Goals as goal

pub overflow_sub-result : goal.overflow_sub-result
overflow_sub-result c =
    let point = IsPartitionPoint-from_clause (λ before. leb before c.args.day) _ _ c.partition_point-begun.ensures.partitioned (parted c.month_table.ensures _) (λ a r q k. search rules) in
    one_begun c.month_table.ensures _ c.requires _ c.partition_point-begun.ensures.bound point

pub returns : goal.returns
returns c =
    let point = IsPartitionPoint-from_clause (λ before. leb before c.args.day) _ _ c.partition_point-begun.ensures.partitioned (parted c.month_table.ensures _) (λ a r q k. search rules) in
    last_begun c.month_table.ensures _ c.requires _ c.partition_point-begun.ensures.bound point

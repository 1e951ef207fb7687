use Rattle.std.proofs.Common.{rules}
use Rattle.std.specs.Prelude.{nat_lt}
use Rattle.std.proofs.lemmas.List.Sorted.{IsPartitionPoint-from_clause, IsPartitionedBy-ltb}
use Rattle.sms_rows.proofs.table.Places.{keys_rise}
use Rattle.sms_rows.proofs.table.beside.start_in.Goals as goal

pub returns-clause-point : goal.returns-clause-point
returns-clause-point g c =
    let key = g.T.Row.key in
    let xs = c.args.rows.now in
    IsPartitionPoint-from_clause (λ x. nat_lt (key x) c.args.key) xs c.partition_point.result c.partition_point.ensures.partitioned
    (IsPartitionedBy-ltb key xs c.args.key (keys_rise key xs c.requires)) (λ a r q k. search rules)

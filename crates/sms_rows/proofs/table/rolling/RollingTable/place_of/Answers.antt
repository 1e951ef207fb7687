use Rattle.std.proofs.Common.{rules, arith, ◌≡◌, drop, subst}
use Rattle.std.specs.Prelude.{nat_lt}
use Rattle.std.proofs.lemmas.List.Sorted.{IsPartitionPoint-from_clause, IsPartitionedBy-ltb}
use Rattle.sms_rows.specs.table.Table.{rows_from}
use Rattle.sms_rows.proofs.table.Places.{keys_rise, drop_point}
use Rattle.sms_rows.proofs.table.rolling.RollingTable.place_of.Goals as goal

pub returns-clause-from : goal.returns-clause-from
returns-clause-from g c =
    let key = g.T.Row.key in
    let xs = c.self.inside.items.items in
    let point = IsPartitionPoint-from_clause (λ x. nat_lt (key x) c.args.key) xs c.partition_point.result c.partition_point.ensures.partitioned
    (IsPartitionedBy-ltb key xs c.args.key (keys_rise key xs c.self.invariant)) (λ a r q k. search rules) in
    subst (λ z. drop c.partition_point.result z.rows ≡ rows_from key c.args.key z.rows) c.self.view_is
    (drop_point key c.args.key c.partition_point.result xs (omega arith) point)

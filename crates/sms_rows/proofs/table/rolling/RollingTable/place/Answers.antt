use Rattle.std.proofs.Common.{rules, arith, ◌≤◌, ◌<◌, ap, subst, length, get_or}
use Rattle.std.specs.Prelude.{nat_lt}
use Rattle.std.proofs.lemmas.List.Sorted.{IsPartitionPoint-from_clause, IsPartitionedBy-ltb}
use Rattle.sms_rows.specs.table.Table.{IsAt, IsGap}
use Rattle.sms_rows.proofs.table.Places.{keys_rise, above_not, searched_at, searched_gap}
use Rattle.sms_rows.proofs.table.rolling.RollingTable.place.Goals as goal

pub returns-then-place-len : goal.returns-then-place-len
returns-then-place-len g c =
    let key = g.T.Row.key in
    let xs = c.self.inside.items.items in
    let point = IsPartitionPoint-from_clause (λ x. nat_lt (key x) c.args.key) xs c.partition_point-place.result c.partition_point-place.ensures.partitioned
    (IsPartitionedBy-ltb key xs c.args.key (keys_rise key xs c.self.invariant)) (λ a r q k. search rules) in
    let bound : c.partition_point-place.result ≤ length xs = omega arith in
    subst (λ z. IsGap key c.args.key c.partition_point-place.result z.rows) c.self.view_is
    (searched_gap key c.args.key c.partition_point-place.result xs c.self.invariant bound point (λ d l. absurd (omega arith)))

pub returns-then-number : goal.returns-then-number
returns-then-number g c =
    let key = g.T.Row.key in
    let xs = c.self.inside.items.items in
    let point = IsPartitionPoint-from_clause (λ x. nat_lt (key x) c.args.key) xs c.partition_point-place.result c.partition_point-place.ensures.partitioned
    (IsPartitionedBy-ltb key xs c.args.key (keys_rise key xs c.self.invariant)) (λ a r q k. search rules) in
    let bound : c.partition_point-place.result ≤ length xs = omega arith in
    let k = ap key c.index.ensures in
    let gap : c.args.key < key (get_or xs c.partition_point-place.result c.index.result.now) = omega (arith, k, c.key.ensures, c.number.ensures, c.number-2.ensures, c.if-number.true) in
    subst (λ z. IsGap key c.args.key c.partition_point-place.result z.rows) c.self.view_is
    (searched_gap key c.args.key c.partition_point-place.result xs c.self.invariant bound point
    (λ d l e. above_not key c.args.key c.partition_point-place.result xs c.index.result.now d l gap e))

pub returns-else-number : goal.returns-else-number
returns-else-number g c =
    let key = g.T.Row.key in
    let xs = c.self.inside.items.items in
    let point = IsPartitionPoint-from_clause (λ x. nat_lt (key x) c.args.key) xs c.partition_point-place.result c.partition_point-place.ensures.partitioned
    (IsPartitionedBy-ltb key xs c.args.key (keys_rise key xs c.self.invariant)) (λ a r q k. search rules) in
    let k = ap key c.index.ensures in
    let le : key (get_or xs c.partition_point-place.result c.index.result.now) ≤ c.args.key = omega (arith, k, c.key.ensures, c.number.ensures, c.number-2.ensures, c.if-number.false) in
    let l : c.partition_point-place.result < length xs = omega arith in
    subst (λ z. IsAt key c.args.key c.partition_point-place.result z.rows) c.self.view_is
    (searched_at key c.args.key c.partition_point-place.result xs c.index.result.now l point le)

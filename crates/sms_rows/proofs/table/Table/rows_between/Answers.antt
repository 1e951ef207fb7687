use Rattle.std.proofs.Common.{rules, ◌≡◌, ◌-◌, take, drop, length, sym, ap, ◌∙◌, subst}
use Rattle.std.specs.Prelude.{nat_lt}
use Rattle.std.proofs.lemmas.List.{take_rest}
use Rattle.std.proofs.lemmas.List.Sorted.{IsPartitionPoint-from_clause, IsPartitionedBy-ltb}
use Rattle.sms_rows.specs.table.Table.{Rises, rows_before}
use Rattle.sms_rows.proofs.table.Places.{keys_rise, take_point, rises_drop}
use Rattle.sms_rows.proofs.table.Table.rows_between.Goals as goal

pub returns : goal.returns
returns g c =
    let key = g.T.Row.key in
    let xs = c.as_slice.result.now in
    let start = c.start_of-start.result in
    let ys = take (length xs - start) (drop start xs) in
    let e : ys ≡ drop start xs = take_rest xs start in
    let all : xs ≡ c.args.self.now.rows = c.as_slice.ensures.value ∙ ap (λ z. z.rows) c.self.view_is in
    let rises : Rises key xs = subst (λ l. Rises key l) (sym c.as_slice.ensures.value) c.self.invariant in
    let rises_behind : Rises key ys = subst (λ l. Rises key l) (sym e) (rises_drop key start xs rises) in
    let point = IsPartitionPoint-from_clause (λ x. nat_lt (key x) c.args.end) ys c.partition_point-len.result c.partition_point-len.ensures.partitioned
    (IsPartitionedBy-ltb key ys c.args.end (keys_rise key ys rises_behind)) (λ a r q k. search rules) in
    take_point key c.args.end c.partition_point-len.result ys c.partition_point-len.ensures.bound point
    ∙ ap (λ l. rows_before key c.args.end l) (e ∙ ap (λ l. drop start l) all ∙ c.start_of-start.ensures.from)

use Rattle.std.proofs.Common.{◌≡◌, ◌-◌, take, drop, length, sym, ap, ◌∙◌, subst}
use Rattle.std.proofs.lemmas.List.{take_rest}
use Rattle.sms_rows.specs.table.Table.{Rises, rows_before, rows_between}
use Rattle.sms_rows.proofs.table.Places.{drop_point, take_point, rises_drop}
use Rattle.sms_rows.proofs.table.Table.rows_beside.Goals as goal

pub start_in-len-requires : goal.start_in-len-requires
start_in-len-requires g c =
    let key = g.T.Row.key in
    let xs = c.as_slice-rows.result.now in
    let rises : Rises key xs = subst (λ l. Rises key l) (sym c.as_slice-rows.ensures.value) c.self.invariant in
    subst (λ l. Rises key l) (sym (take_rest xs c.start_in-start.result)) (rises_drop key c.start_in-start.result xs rises)

pub returns : goal.returns
returns g c =
    let key = g.T.Row.key in
    let xs = c.as_slice-rows.result.now in
    let start = c.start_in-start.result in
    let ys = take (length xs - start) (drop start xs) in
    let e : ys ≡ drop start xs = take_rest xs start in
    let all : xs ≡ c.args.self.now.rows = c.as_slice-rows.ensures.value ∙ ap (λ z. z.rows) c.self.view_is in
    take_point key c.args.end c.start_in-len.result ys c.start_in-len.ensures.bound c.start_in-len.ensures.point
    ∙ ap (λ l. rows_before key c.args.end l) (e ∙ drop_point key c.args.first start xs c.start_in-start.ensures.bound c.start_in-start.ensures.point) ∙ ap (λ l. rows_between key c.args.first c.args.end l) all

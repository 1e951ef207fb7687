use Rattle.std.proofs.Common.{drop, ap, ◌∙◌}
use Rattle.std.proofs.lemmas.List.{take_rest}
use Rattle.sms_rows.proofs.table.Table.rows_from.Goals as goal

pub returns : goal.returns
returns g c =
    let xs = c.as_slice.result.now in
    let start = c.start_of-start.result in
    take_rest xs start ∙ ap (λ l. drop start l) (c.as_slice.ensures.value ∙ ap (λ z. z.rows) c.self.view_is) ∙ c.start_of-start.ensures.from

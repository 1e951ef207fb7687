use Rattle.std.proofs.Common.{◌≡◌, ◌++◌, Bool, length, subst}
use Rattle.std.proofs.lemmas.Result.{on_ok_weaker}
use Rattle.std.specs.Prelude.{◌==◌, flat_map}
use Rattle.smsc_status.specs.Page.{none_row, table_end, table_text}
use Rattle.smsc_status.proofs.Chains.{chain4}
use Rattle.smsc_status.proofs.page.put_table.Goals as goal

pub returns : goal.returns
unfolding table_text
returns g c =
    let rows = c.args.rows.now in
    let columns = c.args.columns.now in
    let none : c.put_none.new.out ≡ c.put_rows.new.out ++ none_row (length rows == 0) columns =
    subst (λ (is_none : Bool). c.put_none.new.out ≡ c.put_rows.new.out ++ none_row is_none columns)
    c.is_empty.ensures c.in_ok-put_none.ensures in
    on_ok_weaker c.end_table.result
    (λ e. chain4 c.args.out.now
    c.args.head.now (flat_map g.T.Row.text rows) (none_row (length rows == 0) columns) table_end
    c.in_ok-append.ensures.ok c.in_ok-put_rows.ensures none e)
    c.end_table.ensures

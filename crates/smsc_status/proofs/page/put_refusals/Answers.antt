use Rattle.std.proofs.Common.{◌≡◌, ◌++◌, Bool, subst}
use Rattle.std.proofs.lemmas.Result.{on_ok_weaker}
use Rattle.std.specs.Prelude.{codes, flat_map}
use Rattle.smsc_status.specs.declared.page.TheConstants.{REFUSALS_HEAD}
use Rattle.smsc_status.specs.Page.{binds_row, deliveries_row, is_nothing_refused, none_row, refusals_table, submits_row, table_end}
use Rattle.smsc_status.proofs.Chains.{chain6}
use Rattle.smsc_status.proofs.page.put_refusals.Goals as goal

pub returns : goal.returns
unfolding refusals_table
returns c =
    let v = c.args.view.now in
    let none : c.put_none.new.out ≡ c.put_rows-3.new.out ++ none_row (is_nothing_refused v) (codes "4") =
    subst (λ (is_none : Bool). c.put_none.new.out ≡ c.put_rows-3.new.out ++ none_row is_none (codes "4"))
    c.is_nothing_refused.ensures c.in_ok-put_none.ensures in
    on_ok_weaker c.end_table.result
    (λ e. chain6 c.args.out.now
    REFUSALS_HEAD.now (flat_map submits_row v.refused_submits.now) (flat_map binds_row v.refused_binds.now) (flat_map deliveries_row v.refused_deliveries.now)
    (none_row (is_nothing_refused v) (codes "4")) table_end
    c.in_ok-append.ensures.ok c.in_ok-put_rows.ensures c.in_ok-put_rows-2.ensures c.in_ok-put_rows-3.ensures none e)
    c.end_table.ensures

use Rattle.sms_rows.proofs.table.Tables.{rises_all_applied}
use Rattle.sms_rows.proofs.table.laws.changes_keep_order.Goals as goal

pub returns : goal.returns
returns g c = λ changes rows h. rises_all_applied g.T.Row.key changes rows h

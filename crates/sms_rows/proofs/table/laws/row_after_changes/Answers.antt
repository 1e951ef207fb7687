use Rattle.sms_rows.proofs.table.Tables.{row_at_all_applied}
use Rattle.sms_rows.proofs.table.laws.row_after_changes.Goals as goal

pub returns : goal.returns
returns g c = λ n changes rows. row_at_all_applied g.T.Row.key n changes rows

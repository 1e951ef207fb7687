use Rattle.sms_rows.proofs.table.SinceLaws.{commits}
use Rattle.sms_rows.proofs.table.laws.news_are_committed.Goals as goal

pub returns : goal.returns
returns g c = λ news base. commits g.T.Row.key news base

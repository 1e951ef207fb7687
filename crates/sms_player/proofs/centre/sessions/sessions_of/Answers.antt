use Rattle.std.proofs.Common.{◌∙◌, ap, List, sym, subst}
use Rattle.sms_centre_rows.specs.reports.Receipts.{Session, session_key}
use Rattle.sms_centre.specs.state.Recovering.{AreNew}
use Rattle.sms_rows.specs.table.Table.{RowsInMemory, Rises}
use Rattle.sms_player.proofs.centre.NewSessions.{are_new, sessions_rise}
use Rattle.sms_player.proofs.centre.sessions.sessions_of.Goals as goal

pub from_vec-requires : goal.from_vec-requires
from_vec-requires c = subst (λ (s : List Session). Rises session_key s) (sym c.in_ok-seats.ensures) (sessions_rise 0 c.args.accounts.now)

pub returns-clause-new : goal.returns-clause-new
returns-clause-new c = subst (λ (s : List Session). AreNew s) (sym (ap (λ (t : RowsInMemory Session). t.rows) c.from_vec.ensures ∙ c.in_ok-seats.ensures)) (are_new c.args.accounts.now)

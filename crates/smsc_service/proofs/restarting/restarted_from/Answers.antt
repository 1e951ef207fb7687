use Rattle.std.proofs.Common.{◌∙◌, IfOk, ap, subst}
use Rattle.sms_centre.specs.state.CentreState.{Represents, CentreStateOf}
use Rattle.sms_centre_spec.specs.declared.rows.Rows.{Rows}
use Rattle.smsc_service.specs.Accounts.{bare, with_accounts}
use Rattle.smsc_service.specs.Seats.{seats_in}
use Rattle.smsc_service.specs.Serving.{restarted}
use Rattle.smsc_service.proofs.AccountsCome.{bare_again}
use Rattle.smsc_service.proofs.Stepped.{made_of}
use Rattle.smsc_service.proofs.restarting.restarted_from.Goals as goal

pub returns-in-Ok-clause-outcome : goal.returns-in-Ok-clause-outcome
returns-in-Ok-clause-outcome g c = λ rows is honest holds.
    let found = c.in-Ok.ensures.outcome (bare rows) honest holds in
    let accounts = c.args.accounts.items in
    made_of (λ (x : CentreStateOf). Represents (restarted rows (seats_in c.args.seat_map.now)).core x) (bare rows) (g.K.RowStore.state c.gather.new.self.store) c.recovered_at.result
    (subst (λ (r : Rows). IfOk c.recovered_at.result (λ x. Represents (restarted r (seats_in c.args.seat_map.now)).core x))
    (c.with_accounts_of.ensures ∙ ap (λ (r : Rows). with_accounts accounts r) found.0 ∙ bare_again rows accounts is) c.recovered_at.ensures) found.1

pub returns-in-Err-clause-outcome : goal.returns-in-Err-clause-outcome
returns-in-Err-clause-outcome g c = λ rows is honest holds. c.in-Err.ensures.outcome (bare rows) honest holds

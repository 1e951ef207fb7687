use Rattle.std.proofs.Common.{◌∙◌, refl, subst, sym}
use Rattle.sms_centre.specs.state.CentreState.{Represents, CentreStateOf}
use Rattle.smsc_service.specs.Seats.{seats_in}
use Rattle.smsc_service.specs.Serving.{restarted}
use Rattle.smsc_service.specs.InSeated.{accounts_in}
use Rattle.smsc_service.proofs.AccountsCome.{first_are}
use Rattle.smsc_service.proofs.Standing.{stands_again}
use Rattle.smsc_service.proofs.service.Service.restart.Goals as goal

pub returns-clause-served : goal.returns-clause-served
returns-clause-served g c = λ r honest awaited.
    let before = c.args.self.now in
    let started = c.in_ok-centre.ensures in
    let now = record before {
      seated = record before.seated {
        machine = record before.seated.machine { keep = c.restarted_from.new.keep; centre = c.put.new.place };
        seat_map = c.copy_from.new.self;
      };
    } in
    let are = c.in_ok-accounts.ensures ∙ first_are r.core.rows.setup.accounts (accounts_in before.seated) before.accounts awaited.accounts.come awaited.accounts.count in
    stands_again g.K.RowStore.state before now r awaited started.held
    (λ holds. let there = started.outcome r.core.rows (sym are) honest holds in
    (there.1, subst (λ (x : CentreStateOf). Represents (restarted r.core.rows (seats_in before.resumed)).core x) (sym c.put.ensures) there.0))
    (λ closed. started.closed honest closed) c.copy_from.ensures refl refl

use Rattle.std.proofs.Common.{[], None, sym, subst}
use Rattle.sms_centre.specs.plans.EventOutcome.{AreOutputs}
use Rattle.sms_centre.specs.declared.plans.event_outcome.Outputs.{Outputs}
use Rattle.sms_centre.specs.Stored.{StoresRows}
use Rattle.sms_centre_spec.specs.CentreEvent.{happened, started}
use Rattle.sms_centre_spec.specs.Draft.{Core}
use Rattle.sms_centre_spec.specs.SoundRows.{first_rows}
use Rattle.sms_relay_run.proofs.centre.plan_and_adopt.Goals as goal

pub returns-in-Ok : goal.returns-in-Ok
returns-in-Ok c = λ setup handsets is.
    let core : Core = started (first_rows setup) handsets [] in
    let stores : StoresRows (λ key. None) core.rows = record { parts = λ p among. absurd among; reports = λ r among status. absurd among } in
    let planned = (c.in-Ok.ensures.outcome core tt is stores tt tt).0 in
    subst (λ (t : Outputs). AreOutputs (happened c.args.event.now core) t) (sym c.adopt.ensures.outputs) planned.outputs

use Rattle.std.proofs.Common.{sym, subst}
use Rattle.sms_store_memory.specs.centre.RowsInKeep.{rows_in}
use Rattle.sms_centre_spec.specs.CentreEvent.{happened}
use Rattle.sms_centre.specs.plans.EventOutcome.{AreOutputs}
use Rattle.sms_centre.specs.declared.plans.event_outcome.Outputs.{Outputs}
use Rattle.sms_player.specs.centre.PlayedCentre.{Represents}
use Rattle.sms_player.proofs.centre.Plans.{if_ok}
use Rattle.sms_player.proofs.centre.events.meet.Goals as goal

pub returns-in-Ok-clause-outputs : goal.returns-in-Ok-clause-outputs
returns-in-Ok-clause-outputs c = λ core was.
    if_ok c.carry_out.result _ _ (λ (t : Outputs) e. subst (λ (x : Outputs). AreOutputs (happened c.args.event.now core) x) (sym e) (c.in-Ok.ensures.plan core was).outputs) c.carry_out.ensures.outputs

pub returns-in-Ok-clause-played : goal.returns-in-Ok-clause-played
returns-in-Ok-clause-played c = λ core was.
    let now : Represents core c.args.centre.now (rows_in c.plan.new.keep) = record { centre = was.centre; same_rows = c.in-Ok.ensures.same core was; accounts = was.accounts } in
    c.carry_out.ensures.done c.args.event.now core now c.in-Ok.ensures.event (c.in-Ok.ensures.plan core was)

pub returns-in-Ok-clause-given : goal.returns-in-Ok-clause-given
returns-in-Ok-clause-given c = λ core was.
    let now : Represents core c.args.centre.now (rows_in c.plan.new.keep) = record { centre = was.centre; same_rows = c.in-Ok.ensures.same core was; accounts = was.accounts } in
    c.carry_out.ensures.given c.args.event.now core now (c.in-Ok.ensures.plan core was)

pub returns-in-Ok-clause-consistent : goal.returns-in-Ok-clause-consistent
returns-in-Ok-clause-consistent c =
    let core = c.requires.consistent.0 in
    let was = c.requires.consistent.1 in
    let now : Represents core c.args.centre.now (rows_in c.plan.new.keep) = record { centre = was.centre; same_rows = c.in-Ok.ensures.same core was; accounts = was.accounts } in
    c.carry_out.ensures.consistent c.args.event.now core now c.in-Ok.ensures.event (c.in-Ok.ensures.plan core was)

pub returns-in-Err-clause-consistent : goal.returns-in-Err-clause-consistent
returns-in-Err-clause-consistent c =
    let core = c.requires.consistent.0 in
    let was = c.requires.consistent.1 in
    (core, record { centre = was.centre; same_rows = c.in-Err.ensures.same core was; accounts = was.accounts })

use Rattle.std.proofs.Common.{List, sym, subst}
use Rattle.sms_centre_reports.specs.report_log.ReportLog.{Represents as LogRepresents}
use Rattle.sms_centre_rows.specs.declared.reports.report.ReportRow.{ReportRow}
use Rattle.sms_centre_rows.specs.reports.Reports.{report_key, report_reaching}
use Rattle.sms_centre_rows.specs.declared.waiting.revision.Revision.{Revision}
use Rattle.sms_centre_rows.specs.waiting.Revisions.{all_revised}
use Rattle.sms_centre_spec.specs.declared.rows.Rows.{Rows}
use Rattle.sms_centre_spec.specs.CentreEvent.{happened}
use Rattle.sms_centre.specs.plans.EventOutcome.{IsOutcome}
use Rattle.sms_centre.specs.state.CentreState.{Represents as StateRepresents, CentreStateOf}
use Rattle.sms_centre.specs.Planning.{PlanOf}
use Rattle.sms_centre_spec.specs.forgetting.Forget.{forget}
use Rattle.sms_centre.proofs.Forgotten.{awaited_still, rows_forgotten}
use Rattle.sms_centre.proofs.Promises.{planned_rows}
use Rattle.sms_centre.proofs.adopting.put_in.Goals as goal

pub returns-clause-centre_state : goal.returns-clause-centre_state
returns-clause-centre_state c = λ event core centre_state is planned.
    let s : CentreStateOf = record { setup = c.centre_state.inside.setup; moment = c.centre_state.inside.moment; messages = c.centre_state.inside.messages; reference_index = c.centre_state.inside.reference_index; queues = c.centre_state.inside.queues; reports = c.centre_state.inside.reports; log = c.centre_state.inside.log; sessions = c.centre_state.inside.sessions } in
    let was : StateRepresents core s = subst (λ (x : CentreStateOf). StateRepresents core x) (sym c.centre_state.view_is) centre_state in
    let plans : IsOutcome (happened event core) c.planned.inside.plan = subst (λ (p : PlanOf). IsOutcome (happened event core) p.plan) (sym c.planned.view_is) planned in
    record {
      centre = c.adopt-2.ensures.centre event core c.centre_state.inside.setup is plans was.centre;
      reference_index = c.adopt-2.ensures.reference_index event core c.centre_state.inside.setup is plans was.centre was.reference_index;
      log = subst (λ (r : Rows). LogRepresents c.adopt.new.self r.reports) (planned_rows event core c.planned.inside.plan plans)
          (subst (λ (x : List (Revision ReportRow)). LogRepresents c.adopt.new.self (all_revised report_key report_reaching x core.rows.reports)) c.as_slice.ensures (c.adopt.ensures core.rows.reports was.log));
      awaited = c.every_event_keeps_what_is_awaited.ensures.awaited event core was.centre.sound is was.awaited;
    }

pub returns-clause-forgotten : goal.returns-clause-forgotten
returns-clause-forgotten c = λ before from most core centre_state planned.
    let s : CentreStateOf = record { setup = c.centre_state.inside.setup; moment = c.centre_state.inside.moment; messages = c.centre_state.inside.messages; reference_index = c.centre_state.inside.reference_index; queues = c.centre_state.inside.queues; reports = c.centre_state.inside.reports; log = c.centre_state.inside.log; sessions = c.centre_state.inside.sessions } in
    let was : StateRepresents core s = subst (λ (x : CentreStateOf). StateRepresents core x) (sym c.centre_state.view_is) centre_state in
    let plans : IsOutcome (forget before from most core) c.planned.inside.plan = subst (λ (p : PlanOf). IsOutcome (forget before from most core) p.plan) (sym c.planned.view_is) planned in
    record {
      centre = c.adopt-2.ensures.forgotten before from most core c.centre_state.inside.setup plans was.centre;
      reference_index = c.adopt-2.ensures.reference_index_forgets before from most core c.centre_state.inside.setup plans was.centre was.reference_index;
      log = subst (λ (r : Rows). LogRepresents c.adopt.new.self r.reports) (rows_forgotten before from most core c.planned.inside.plan plans)
          (subst (λ (x : List (Revision ReportRow)). LogRepresents c.adopt.new.self (all_revised report_key report_reaching x core.rows.reports)) c.as_slice.ensures (c.adopt.ensures core.rows.reports was.log));
      awaited = awaited_still before from most core c.planned.inside.plan plans was.centre.sound was.awaited;
    }

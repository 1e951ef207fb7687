use Rattle.sms_centre_spec.proofs.conditions.ReportsTested.{reports_from, reports_to}
use Rattle.sms_centre_spec.proofs.conditions.laws.reports_are_tested.Goals as goal

pub returns : goal.returns
returns c messages reports a = (λ pass. reports_from messages reports a pass, λ sound. reports_to messages reports sound)

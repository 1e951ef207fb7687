use Rattle.sms_centre_rows.proofs.reports.EndsWaiting.{end_waits}
use Rattle.sms_centre_rows.proofs.reports.laws.an_end_withdraws_the_parts.Goals as goal

pub returns : goal.returns
returns c = λ h ms qs ps rs m state moment numbered alone there. end_waits h ms qs ps rs m state moment numbered alone there

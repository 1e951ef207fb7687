use Rattle.sms_centre_rows.proofs.reports.EndsWaiting.{new_waits}
use Rattle.sms_centre_rows.proofs.reports.laws.a_new_message_leaves_what_waits.Goals as goal

pub returns : goal.returns
returns c = λ h ms qs ps rs m q numbered alone own none free. new_waits h ms qs ps rs m q numbered alone own none free

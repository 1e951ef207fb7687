use Rattle.sms_centre_reports.proofs.awaited.AllEvents.{awaited_after, open_stays}
use Rattle.sms_centre_reports.proofs.awaited.laws.every_event_keeps_what_is_awaited.Goals as goal

pub returns : goal.returns
returns c = record {
  still_open = λ event core s is plain. (open_stays event core s is plain).stays;
  awaited = awaited_after;
}

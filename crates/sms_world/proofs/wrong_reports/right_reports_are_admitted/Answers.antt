use Rattle.sms_world.proofs.wrong_reports.GoodReport.{has_it as report_is}
use Rattle.sms_world.proofs.wrong_reports.LongDelivered.{has_it as split_is}
use Rattle.sms_world.proofs.wrong_reports.OwnersText.{has_it as owner_is, is_sent as sent_is}
use Rattle.sms_world.proofs.wrong_reports.TrueQuery.{has_it as query_is}
use Rattle.sms_world.proofs.wrong_reports.TrueCancel.{has_it as cancel_is}
use Rattle.sms_world.proofs.wrong_reports.StoppedBehind.{has_it as stopped_is}
use Rattle.sms_world.proofs.wrong_reports.right_reports_are_admitted.Goals as goal

pub returns : goal.returns
returns c = record { report = report_is; query = query_is; cancel = cancel_is; stopped = stopped_is; owner = owner_is; sent = sent_is; split = split_is }

use Rattle.sms_world.proofs.wrong_reports.NumberOnce.{refused as number_is}
use Rattle.sms_world.proofs.wrong_reports.QueryFalse.{refused as query_is}
use Rattle.sms_world.proofs.wrong_reports.CancelFalse.{deletes, refused as cancel_is}
use Rattle.sms_world.proofs.wrong_reports.DeletedByNobody.{refused as deleted_is}
use Rattle.sms_world.proofs.wrong_reports.SystemError.{refused as system_error_is}
use Rattle.sms_world.proofs.wrong_reports.TwiceAnswered.{refused as twice_is}
use Rattle.sms_world.proofs.wrong_reports.wrong_answers_are_refused.Goals as goal

pub returns : goal.returns
returns c = record { number = number_is; query = query_is; cancel = cancel_is; refused = deletes; deleted = deleted_is; system_error = system_error_is; twice = twice_is }

use Rattle.sms_world.proofs.wrong_reports.PartTwice.{refused as twice_is}
use Rattle.sms_world.proofs.wrong_reports.NeverAccepted.{refused as never_is}
use Rattle.sms_world.proofs.wrong_reports.ToldFalsely.{refused as told_is}
use Rattle.sms_world.proofs.wrong_reports.OtherText.{refused as text_is}
use Rattle.sms_world.proofs.wrong_reports.HalfAccepted.{refused as half_is}
use Rattle.sms_world.proofs.wrong_reports.AcceptedOfNobody.{refused as accepted_is}
use Rattle.sms_world.proofs.wrong_reports.SentOfNobody.{refused as sent_is}
use Rattle.sms_world.proofs.wrong_reports.JoinedNothing.{refused as joined_is}
use Rattle.sms_world.proofs.wrong_reports.InCommon.{refused as common_is}
use Rattle.sms_world.proofs.wrong_reports.wrong_deliveries_are_refused.Goals as goal

pub returns : goal.returns
returns c = record { twice = twice_is; never = never_is; told = told_is; text = text_is; half = half_is; accepted = accepted_is; sent = sent_is; joined = joined_is; common = common_is }

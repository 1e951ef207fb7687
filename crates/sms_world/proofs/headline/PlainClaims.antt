-- The claims of the plain headline that follow from what is proved of courses.
use Rattle.sms_base.specs.Reading.{◌>>=◌}
use Rattle.sms_play.proofs.answers.PlayAnswers.{no_system_error}
use Rattle.sms_play.specs.PlayState.{PlayState}
use Rattle.sms_play.specs.Playing.{report_of}
use Rattle.sms_play.specs.Setups.{beginning}
use Rattle.sms_script.specs.declared.play_fault.PlayFault.{PlayFault}
use Rattle.sms_world.proofs.headline.Claimed.{final_is, given_is, once_is, reaches, receipts_are}
use Rattle.sms_world.proofs.headline.ScriptCourses.{can_play, course_of}
use Rattle.sms_world.proofs.headline.HeadlineHolds.{lines_stay_is, ok_report, receipts_stay_is}
use Rattle.sms_world.proofs.headline.PlainAccepted.{lines_once}
use Rattle.sms_world.proofs.headline.PlainTables.{answers_ascend, lines_ascend}
use Rattle.sms_world.proofs.headline.StatusFrames.{tags_listed}
use Rattle.sms_world.specs.headline.PlainLaws.{AscendLaw, AscendingLaw, LongerLaw, NoErrorLaw, NoneTwiceLaw, ReceiptsLaw, ReferencesLaw}
use Rattle.std.proofs.Common.{Result, ap, refl}

pub ascending_is : AscendingLaw
ascending_is script some others c d is on =
    let k = course_of script some others c d is on in
    lines_ascend c.centre.rows.messages k.refines.sound.rows.messages.message_keys

pub longer_is : LongerLaw
longer_is script some others c d is on = record {
  lines = lines_stay_is script some others c d is on;
  final = final_is script some others c d is on;
  receipts = receipts_stay_is script some others c d is on;
}

pub receipts_is : ReceiptsLaw
receipts_is script some others c d is on =
    let k = course_of script some others c d is on in
    record { state = receipts_are script some others c d is on; one = once_is script some others c d is on; frames = tags_listed c k.world k.refines }

pub references_is : ReferencesLaw
references_is = given_is

pub ascend_is : AscendLaw
ascend_is script some others c d is on = answers_ascend some (beginning script.setup) c refl (can_play script.setup some c on.here).leads

pub no_error_is : NoErrorLaw
no_error_is script some others c d is on =
    no_system_error script.setup some (report_of c) (ap (λ (r : Result PlayState PlayFault). r >>= λ (x : PlayState). ok_report (report_of x)) on.here)

pub plain_once_is : NoneTwiceLaw
plain_once_is script some others c d is on timely =
    let r = reaches script some others c d is on timely in
    lines_once c r.0 r.1.0 r.1.1.faithful

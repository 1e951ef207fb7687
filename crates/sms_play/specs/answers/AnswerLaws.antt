-- What the requests of a script are never answered (SMPP v3.4 5.1.3, ESME_RSYSERR).
use Rattle.std.specs.Prelude.{◌≡◌, List, Ok}
use Rattle.sms_base.specs.Among.{Among}
use Rattle.smpp_pdu.specs.declared.status.CommandStatus.TheVariants.{ESME_RSYSERR}
use Rattle.sms_play.specs.Playing.{play_of}
use Rattle.sms_script.specs.declared.report.answers.Answer.{Answer}
use Rattle.sms_script.specs.declared.report.answers.Answered.TheVariants.{Status}
use Rattle.sms_script.specs.declared.report.Report.{Report}
use Rattle.sms_script.specs.declared.event.WorldEvent.{WorldEvent}
use Rattle.sms_script.specs.declared.setup.Setup.{Setup}

abbrev pub IsNoSystemError : Answer → Type 0
IsNoSystemError a = ¬ (a.answered ≡ Status ESME_RSYSERR)

abbrev pub HaveNoSystemError : List Answer → Type 0
HaveNoSystemError answers = (a : Answer) → Among a answers → IsNoSystemError a

abbrev pub NoSystemErrorLaw : Type 0
NoSystemErrorLaw = (s : Setup) (events : List WorldEvent) (report : Report) → play_of s events ≡ Ok report → HaveNoSystemError report.answers

-- An answer of no message, a STATUS-REPORT that is not listed, and an answer ESME_RSYSERR.
use Rattle.std.proofs.Common.{refl, inl}
use Rattle.smpp_pdu.specs.declared.status.CommandStatus.TheVariants.{ESME_RSYSERR}
use Rattle.sms_script.specs.declared.report.answers.Answered.TheVariants.{Status}
use Rattle.sms_world.proofs.wrong_plays.StatusRead.{carried, reads, says}
use Rattle.sms_world.specs.wrong_plays.Plays.{frame_to}
use Rattle.sms_world.specs.wrong_plays.Told.{NotListedLaw, NotThereLaw, SystemErrorLaw}
use Rattle.sms_world.specs.wrong_reports.Literals.{answer, writer}

pub not_there : NotThereLaw
not_there are = (are answer 1 (inl refl) refl).1.0

pub not_listed : NotListedLaw
not_listed are = (are (frame_to writer) carried says (inl refl) refl refl refl reads).1.0

pub system_error : SystemErrorLaw
system_error none = none (record { event = 1; answered = Status ESME_RSYSERR }) (inl refl) refl

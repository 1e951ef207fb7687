use Rattle.std.proofs.Common.{refl, inl}
use Rattle.sms_script.specs.declared.report.answers.Answered.TheVariants.{Status}
use Rattle.smpp_pdu.specs.declared.status.CommandStatus.TheVariants.{ESME_RSYSERR}
use Rattle.sms_world.specs.wrong_reports.Tried.{SystemErrorLaw}

pub refused : SystemErrorLaw
refused n = n (record { event = 1; answered = Status ESME_RSYSERR }) (inl refl) refl

-- How a transfer that the handset began ended.
use Rattle.std.specs.Prelude.{◌==◌, ◌||◌, Bool, ℕ, false, Option, Some, None, Result, Ok, Err, List, if◌then◌else◌}
use Rattle.sms_relay.specs.declared.cause.RpCause.{RpCause}
use Rattle.sms_relay.specs.Cause.{number_of}
use Rattle.sms_link.specs.declared.ending.Ending.{Ending}
use Rattle.sms_link.specs.declared.ending.Ending.TheVariants.{Acknowledged as AcknowledgedEnd, Refused as RefusedEnd, Wrong as WrongEnd, Lost as LostEnd}
use Rattle.sms_tpdu.specs.declared.down.Down.{Down}
use Rattle.sms_tpdu.specs.declared.down.Down.TheVariants.{Deliver, StatusReport, SubmitReport}
use Rattle.sms_tpdu.specs.declared.fault.TpduFault.{TpduFault}
use Rattle.sms_tpdu.specs.declared.carrier.Carrier.TheVariants.{InError}
use Rattle.sms_tpdu.specs.TpduReading.{down_at}
use Rattle.sms_handset_rows.specs.declared.outbox.answers.TransferEnd.{TransferEnd}
use Rattle.sms_handset_rows.specs.declared.outbox.answers.TransferEnd.TheVariants.{Temporary, Duplicate, Refused, Acknowledged, Lost}

-- 3GPP TS 24.011 8.2.5.4: network out of order, temporary failure, congestion, resources unavailable
abbrev pub is_temporary : RpCause → Bool
is_temporary cause = number_of cause == 38 || (number_of cause == 41 || (number_of cause == 42 || number_of cause == 47))

-- 3GPP TS 23.040 9.2.3.22: TP-FCS C5 says that the short message is a duplicate
abbrev pub is_duplicate_cause : Option ℕ → Bool
is_duplicate_cause None = false
is_duplicate_cause (Some failure) = failure == 197

-- a report that can't be read has no cause
abbrev pub reports_duplicate : Result Down TpduFault → Bool
reports_duplicate (Ok (Deliver m)) = false
reports_duplicate (Ok (StatusReport r)) = false
reports_duplicate (Ok (SubmitReport r)) = is_duplicate_cause r.failure_cause
reports_duplicate (Err fault) = false

abbrev pub is_duplicate : Option (List ℕ) → Bool
is_duplicate None = false
is_duplicate (Some tpdu) = reports_duplicate (down_at InError tpdu)

abbrev pub error_verdict : RpCause → Option (List ℕ) → TransferEnd
error_verdict cause tpdu = if is_temporary cause then Temporary else (if is_duplicate tpdu then Duplicate else Refused)

-- What the end of its transfer says of an entry. Of an answer that is none to it, and of no answer, nothing is learnt.
abbrev pub verdict_of : Ending → TransferEnd
verdict_of AcknowledgedEnd = Acknowledged
verdict_of (RefusedEnd cause tpdu) = error_verdict cause tpdu
verdict_of WrongEnd = Lost
verdict_of LostEnd = Lost

-- The numbers of the failure causes and of the statuses that this centre gives.
use Rattle.std.specs.Prelude.{ℕ}
use Rattle.sms_tpdu.specs.declared.codes.FailureCause.{FailureCause}
use Rattle.sms_tpdu.specs.declared.codes.FailureCause.TheVariants.{ServiceCentreBusy, ServiceCentreSystemFailure, InvalidSmeAddress, DestinationBarred}
use Rattle.sms_tpdu.specs.declared.codes.FailureCause.TheVariants.{DuplicateShortMessage, ValidityPeriodFormatNotSupported, MemoryCapacityExceeded}
use Rattle.sms_tpdu.specs.declared.codes.FailureCause.TheVariants.{UnspecifiedErrorCause}
use Rattle.sms_tpdu.specs.declared.codes.Status.{Status}
use Rattle.sms_tpdu.specs.declared.codes.Status.TheVariants.{Received, RemoteProcedureError, ValidityPeriodExpired, DeletedByServiceCentre}

-- 3GPP TS 23.040 9.2.3.22
abbrev pub cause_octet : FailureCause → ℕ
cause_octet ServiceCentreBusy = 192
cause_octet ServiceCentreSystemFailure = 194
cause_octet InvalidSmeAddress = 195
cause_octet DestinationBarred = 196
cause_octet DuplicateShortMessage = 197
cause_octet ValidityPeriodFormatNotSupported = 198
cause_octet MemoryCapacityExceeded = 211
cause_octet UnspecifiedErrorCause = 255

-- 3GPP TS 23.040 9.2.3.15
abbrev pub status_octet : Status → ℕ
status_octet Received = 0
status_octet RemoteProcedureError = 64
status_octet ValidityPeriodExpired = 70
status_octet DeletedByServiceCentre = 72

-- The codes of the refusals and of the fault of recovery in reports.
use Rattle.std.specs.Prelude.{ℕ, List, Option, Some, None, codes}
use Rattle.sms_base.specs.FaultCodes.{address_code}
use Rattle.sms_handset.specs.declared.recover_error.RecoverError.{RecoverError}
use Rattle.sms_handset.specs.declared.recover_error.RecoverError.TheVariants.{BadRows, NoMemory}
use Rattle.sms_handset.specs.declared.refusal.Refusal.{Refusal}
use Rattle.sms_handset.specs.declared.refusal.Refusal.TheVariants.{NoEntry, StillOpen, OutboxFull, TooManyDiscarded, TooManyParts, Destination}

abbrev pub refusal_code : Refusal → List ℕ
refusal_code NoEntry = codes "H2"
refusal_code StillOpen = codes "H3"
refusal_code OutboxFull = codes "H4"
refusal_code TooManyDiscarded = codes "H5"
refusal_code TooManyParts = codes "C1"
refusal_code (Destination fault) = address_code fault

abbrev pub recover_code : RecoverError → Option (List ℕ)
recover_code BadRows = Some (codes "H1")
recover_code NoMemory = None

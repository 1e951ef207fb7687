-- Why a handset does not start.
use Rattle.std.specs.Prelude.{Result, Ok, Err}
use Rattle.sms_handset.specs.declared.recover_error.RecoverError.{RecoverError}
use Rattle.sms_handset.specs.declared.recover_error.RecoverError.TheVariants.{BadRows as BadRecover, NoMemory as NoRecover}
use Rattle.sms_handset.specs.declared.machine.start_error.StartError.{StartError}
use Rattle.sms_handset.specs.declared.machine.start_error.StartError.TheVariants.{BadRows, NoMemory, Store}

-- the same cause
abbrev pub of_recover : RecoverError → StartError
of_recover BadRecover = BadRows
of_recover NoRecover = NoMemory

-- the rows are said to be bad
abbrev pub IsBad : {X : Type 0} → Result X StartError → Type 0
IsBad (Ok x) = ⊥
IsBad (Err BadRows) = Unit {0}
IsBad (Err NoMemory) = ⊥
IsBad (Err (Store error)) = ⊥

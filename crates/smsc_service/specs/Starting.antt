-- Why a centre does not start.
use Rattle.sms_centre.specs.declared.state.recover_error.RecoverError.{RecoverError}
use Rattle.sms_centre.specs.declared.state.recover_error.RecoverError.TheVariants.{BadRows as BadRecover, NoMemory as NoRecover}
use Rattle.smsc_service.specs.declared.start_error.StartError.{StartError}
use Rattle.smsc_service.specs.declared.start_error.StartError.TheVariants.{BadRows, NoMemory}

-- the same cause
abbrev pub of_recover : RecoverError → StartError
of_recover BadRecover = BadRows
of_recover NoRecover = NoMemory

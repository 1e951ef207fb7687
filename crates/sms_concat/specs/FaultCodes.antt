-- The codes of the faults in reports. Want of memory has none.
use Rattle.std.specs.Prelude.{ℕ, List, Option, Some, None, codes}
use Rattle.sms_concat.specs.declared.split_error.SplitError.{SplitError}
use Rattle.sms_concat.specs.declared.split_error.SplitError.TheVariants.{TooManyParts, DoesNotFit, NoMemory}

abbrev pub split_code : SplitError → Option (List ℕ)
split_code TooManyParts = Some (codes "C1")
split_code DoesNotFit = Some (codes "C2")
split_code NoMemory = None

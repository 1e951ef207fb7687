-- The codes of refusals in reports.
use Rattle.std.specs.Prelude.{ℕ, List, codes}
use Rattle.sms_rows.specs.declared.keep.error.KeepError.{KeepError}
use Rattle.sms_rows.specs.declared.keep.error.KeepError.TheVariants.{OldVersion, NotThisStore, Disk, Full, NoMemory, Interrupted, Closed}

abbrev pub keep_code : KeepError → List ℕ
keep_code OldVersion = codes "K1"
keep_code NotThisStore = codes "K2"
keep_code Disk = codes "K3"
keep_code NoMemory = codes "K4"
keep_code Interrupted = codes "K5"
keep_code Closed = codes "K6"
keep_code Full = codes "K7"

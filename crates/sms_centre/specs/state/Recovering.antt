-- A centre that starts on the rows of a store, or can't.
use Rattle.std.specs.Prelude.{◌≡◌, ℕ, List, [], Bool, Option, Some, None, codes}
use Rattle.sms_base.specs.Among.{Among}
use Rattle.sms_centre_rows.specs.reports.Receipts.{Session}
use Rattle.sms_centre_recovery.specs.soundness.RowsOf.{IsSoundAlone}
use Rattle.sms_centre_recovery.specs.starting.Starting.{links_of}
use Rattle.sms_centre_spec.specs.declared.rows.Rows.{Rows}
use Rattle.sms_centre_spec.specs.CentreEvent.{moment_of}
use Rattle.sms_centre_spec.specs.Draft.{Core}
use Rattle.sms_centre_spec.specs.SoundRows.{IsSound}
use Rattle.sms_centre.specs.declared.state.recover_error.RecoverError.{RecoverError}
use Rattle.sms_centre.specs.declared.state.recover_error.RecoverError.TheVariants.{BadRows, NoMemory}

-- with links to these handsets, up at once or at the first tick, and with these sessions bound
abbrev pub begun : Bool → Rows → List (List ℕ) → List Session → Core
begun are_up rows handsets sessions = record { rows = rows; moment = moment_of rows; links = links_of are_up handsets; sessions = sessions }

-- nothing was sent in these sessions yet
abbrev pub AreNew : List Session → Type 0
AreNew sessions = (s : Session) → Among s sessions → s.unanswered ≡ []

-- No centre can recover from the rows. Where memory was refused, all of them was judged that is judged without memory.
abbrev pub RefusesRows : RecoverError → Rows → Type 0
RefusesRows BadRows rows = ¬ IsSound rows
RefusesRows NoMemory rows = IsSoundAlone rows

abbrev pub recover_code : RecoverError → Option (List ℕ)
recover_code BadRows = Some (codes "E1")
recover_code NoMemory = None

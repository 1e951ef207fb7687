-- Every event leaves it so, and while it is so a question and an answer to a receipt send nothing.
use Rattle.std.specs.Prelude.{◌≡◌, ℕ, List, Bool}
use Rattle.smpp_pdu.specs.declared.query.QuerySm.{QuerySm}
use Rattle.sms_centre_rows.specs.reports.Receipts.{Session}
use Rattle.sms_centre_spec.specs.CentreEvent.{happened, recovered, started}
use Rattle.sms_centre_spec.specs.Draft.{Core, core_of, draft_of}
use Rattle.sms_centre_spec.specs.SoundCore.{IsEvent, IsSoundCore}
use Rattle.sms_centre_spec.specs.SoundRows.{first_rows}
use Rattle.sms_centre_spec.specs.declared.event.CentreEvent.{CentreEvent}
use Rattle.sms_centre_spec.specs.declared.event.CentreEvent.TheVariants.{DeliverAnswered, Query}
use Rattle.sms_centre_spec.specs.declared.rows.Rows.{Rows}
use Rattle.sms_centre_spec.specs.declared.setup.Setup.{Setup}
use Rattle.sms_world.specs.centre_runs_are_steps.Offered.{HasOffered}

-- a new store has nothing to offer
abbrev pub FirstLaw : Type 0
FirstLaw = (setup : Setup) (handsets : List (List ℕ)) (sessions : List Session) → HasOffered (started (first_rows setup) handsets sessions)

-- after a restart no link is up until the first tick
abbrev pub BackLaw : Type 0
BackLaw = (rows : Rows) (handsets : List (List ℕ)) (sessions : List Session) → HasOffered (recovered rows handsets sessions)

-- offers follow every event
abbrev pub EventLaw : Type 0
EventLaw = (event : CentreEvent) (c : Core) → IsSoundCore c → IsEvent event → HasOffered (core_of (happened event c))

-- a question changes no row and no link
abbrev pub QueryLaw : Type 0
QueryLaw = (account : ℕ) (wanted : QuerySm) (c : Core) → HasOffered c → (happened (Query account wanted) c).links ≡ (draft_of c).links

-- an answer to a receipt changes nothing that waits for a handset
abbrev pub AnsweredLaw : Type 0
AnsweredLaw =
    (session id : ℕ) (is_accepted : Bool) (c : Core) → IsSoundCore c → HasOffered c
    → (happened (DeliverAnswered session id is_accepted) c).links ≡ (draft_of c).links

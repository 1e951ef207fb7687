-- What a script's course shows, and what an event of it breaks of the premises.
use Rattle.std.specs.Prelude.{◌≡◌, ℕ, zero, suc, not, if◌then◌else◌, List, [], ◌∷◌, Option, Some, None}
use Rattle.sms_play.specs.PlayState.{PlayState, Party}
use Rattle.sms_play.specs.Premises.{is_fresh_event, is_timely_event}
use Rattle.sms_script.specs.declared.report.Broken.{Broken}
use Rattle.sms_script.specs.declared.report.Broken.TheVariants.{Timely, Reused}
use Rattle.sms_script.specs.declared.report.rows.AcceptedRow.{AcceptedRow}
use Rattle.sms_script.specs.declared.event.WorldEvent.{WorldEvent}

-- ---- what an event breaks: a frame is looked at before what the event gives

-- the first of both
abbrev pub or_first : Option Broken → Option Broken → Option Broken
or_first None later = later
or_first (Some broken) later = Some broken

abbrev pub untimely : ℕ → WorldEvent → PlayState → Option Broken
untimely event e before = if not (is_timely_event e before) then Some (Timely event) else None

abbrev pub reused : ℕ → PlayState → PlayState → Option Broken
reused event before after = if not (is_fresh_event before after) then Some (Reused event) else None

-- ---- what a course shows

-- what the handset at that place accepted
abbrev pub accepted_in : Option Party → List AcceptedRow
accepted_in None = []
accepted_in (Some p) = p.accepted

abbrev pub party_in : ℕ → List Party → Option Party
party_in place [] = None
party_in zero (p ∷ ps) = Some p
party_in (suc place) (p ∷ ps) = party_in place ps

abbrev pub accepted_at : ℕ → List Party → List AcceptedRow
accepted_at place ps = accepted_in (party_in place ps)

-- ---- how a script begins

-- nothing was given or accepted yet
abbrev pub NoneAccepted : List Party → Type 0
NoneAccepted [] = Unit {0}
NoneAccepted (p ∷ ps) = (p.accepted ≡ []) × NoneAccepted ps

pub record IsNewPlay (c : PlayState) : Type 0 where
  pub given : c.given ≡ []
  pub parties : NoneAccepted c.parties

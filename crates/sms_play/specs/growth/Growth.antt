-- What an event keeps of a script's course: what was given and accepted stays, and so do parts.
use Rattle.std.specs.Prelude.{◌≡◌, ℕ, List, [], ◌∷◌, ◌++◌, Some, Result, Ok, Err}
use Rattle.sms_base.specs.declared.holder.Holder.{Holder}
use Rattle.sms_base.specs.declared.holder.Holder.TheVariants.{Part, Report, Entry, Memory}
use Rattle.sms_centre_spec.specs.SoundCore.{IsEvent, IsSoundCore}
use Rattle.sms_centre_rows.specs.declared.messages.part.PartRow.{PartRow}
use Rattle.sms_centre_rows.specs.messages.Messages.{part_at}
use Rattle.sms_play.specs.PlayState.{PlayState, Party}
use Rattle.sms_play.specs.Meeting.{Meeting, AtCentre, AtHandset, meeting_of}
use Rattle.sms_play.specs.PlayedEvent.{played}
use Rattle.sms_script.specs.declared.play_fault.PlayFault.{PlayFault}
use Rattle.sms_script.specs.declared.report.rows.AcceptedRow.{AcceptedRow}
use Rattle.sms_script.specs.declared.report.rows.GivenRow.{GivenRow}
use Rattle.sms_script.specs.declared.event.WorldEvent.{WorldEvent}
use Rattle.sms_script.specs.declared.event.WorldEvent.TheVariants.{Whole, Stopped, Restart}

-- the part that holds a reference is there
abbrev pub HasPart : List PartRow → Holder → Type 0
HasPart parts (Part id number) = (p : PartRow) × (part_at id number parts ≡ Some p)
HasPart parts (Report id) = Unit {0}
HasPart parts (Entry number) = Unit {0}
HasPart parts (Memory number) = Unit {0}

-- each part that was given a reference is there
abbrev pub HaveParts : List PartRow → List GivenRow → Type 0
HaveParts parts [] = Unit {0}
HaveParts parts (g ∷ given) = HasPart parts g.holder × HaveParts parts given

-- a part that is there stays, with its TPDU
abbrev pub PartsStay : List PartRow → List PartRow → Type 0
PartsStay before after =
    (id number : ℕ) (p : PartRow) → part_at id number before ≡ Some p → (q : PartRow) × ((part_at id number after ≡ Some q) × (q.tpdu ≡ p.tpdu))

-- the same handsets, which may have accepted more
abbrev pub AcceptMore : List Party → List Party → Type 0
AcceptMore [] [] = Unit {0}
AcceptMore [] (q ∷ qs) = ⊥
AcceptMore (p ∷ ps) [] = ⊥
AcceptMore (p ∷ ps) (q ∷ qs) = ((more : List AcceptedRow) × (q.accepted ≡ p.accepted ++ more)) × AcceptMore ps qs

-- What was given and accepted stays, in order; parts stay as they are; and the parts that are given references now are there.
pub record Grows (before after : PlayState) : Type 0 where
  pub more : List GivenRow
  pub given : after.given ≡ before.given ++ more
  pub parts : PartsStay before.centre.rows.parts after.centre.rows.parts
  pub there : HaveParts after.centre.rows.parts more
  pub parties : AcceptMore before.parties after.parties

-- ---- every event

-- what happens at the centre is an event
abbrev pub IsCentreEvent : Result Meeting PlayFault → Type 0
IsCentreEvent (Ok (AtCentre e)) = IsEvent e
IsCentreEvent (Ok (AtHandset party e)) = Unit {0}
IsCentreEvent (Err fault) = Unit {0}

abbrev pub IsFit : ℕ → WorldEvent → PlayState → Type 0
IsFit number (Whole act) c = IsCentreEvent (meeting_of number act c)
IsFit number (Stopped stop act) c = IsCentreEvent (meeting_of number act c)
IsFit number (Restart side) c = Unit {0}

abbrev pub GrowthLaw : Type 0
GrowthLaw = (number : ℕ) (e : WorldEvent) (c d : PlayState) → IsSoundCore c.centre → IsFit number e c → played number e c ≡ Ok d → Grows c d

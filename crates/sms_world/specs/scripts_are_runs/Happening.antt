-- What an event of a script is in the world: which event, how it went, and when.
use Rattle.std.specs.Prelude.{ℕ, Option, Some, None}
use Rattle.sms_base.specs.Reading.{AreOctets}
use Rattle.sms_base.specs.TimeStamp.{IsMoment}
use Rattle.sms_script.specs.declared.report.rows.Direction.{Direction}
use Rattle.sms_script.specs.declared.report.rows.Direction.TheVariants.{Up, Down}
use Rattle.sms_script.specs.declared.report.rows.FrameRow.{FrameRow}
use Rattle.sms_script.specs.declared.event.Act.{Act}
use Rattle.sms_script.specs.declared.event.Act.TheVariants.{Submit, Query, Cancel, Write, Delete, Discard, Deliver, Tick}
use Rattle.sms_script.specs.declared.event.EventSide.{EventSide}
use Rattle.sms_script.specs.declared.event.EventSide.TheVariants.{Centre, Handset}
use Rattle.sms_script.specs.declared.event.WorldEvent.{WorldEvent}
use Rattle.sms_script.specs.declared.event.WorldEvent.TheVariants.{Whole as WholeAct, Stopped, Restart}
use Rattle.sms_play.specs.PlayState.{PlayState, frame_at}

-- ---- what a script that was read says of its acts: the moment of a tick is one that time stamps write

abbrev pub IsGoodTick : EventSide → ℕ → Type 0
IsGoodTick Centre now = IsMoment now
IsGoodTick (Handset number) now = Unit {0}

abbrev pub IsGoodAct : Act → Type 0
IsGoodAct (Submit s) = Unit {0}
IsGoodAct (Query name id) = Unit {0}
IsGoodAct (Cancel name id) = Unit {0}
IsGoodAct (Write handset to report text) = Unit {0}
IsGoodAct (Delete handset entry) = Unit {0}
IsGoodAct (Discard handset entry) = Unit {0}
IsGoodAct (Deliver number) = Unit {0}
IsGoodAct (Tick side now) = IsGoodTick side now

abbrev pub IsGoodEvent : WorldEvent → Type 0
IsGoodEvent (WholeAct act) = IsGoodAct act
IsGoodEvent (Stopped stop act) = IsGoodAct act
IsGoodEvent (Restart side) = Unit {0}

-- ---- a frame of a handset is octets

abbrev pub IsOctetsUp : Direction → FrameRow → Type 0
IsOctetsUp Up f = AreOctets f.octets
IsOctetsUp Down f = Unit {0}

abbrev pub IsOctetsAt : Option FrameRow → Type 0
IsOctetsAt None = Unit {0}
IsOctetsAt (Some f) = IsOctetsUp f.direction f

abbrev pub ActHandsOctets : Act → PlayState → Type 0
ActHandsOctets (Submit s) c = Unit {0}
ActHandsOctets (Query name id) c = Unit {0}
ActHandsOctets (Cancel name id) c = Unit {0}
ActHandsOctets (Write handset to report text) c = Unit {0}
ActHandsOctets (Delete handset entry) c = Unit {0}
ActHandsOctets (Discard handset entry) c = Unit {0}
ActHandsOctets (Deliver number) c = IsOctetsAt (frame_at number c.bag)
ActHandsOctets (Tick side now) c = Unit {0}

abbrev pub HandsOctets : WorldEvent → PlayState → Type 0
HandsOctets (WholeAct act) c = ActHandsOctets act c
HandsOctets (Stopped stop act) c = ActHandsOctets act c
HandsOctets (Restart side) c = Unit {0}

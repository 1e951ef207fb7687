-- Whom an act of the script concerns, and what it is to that side. Numbers of frames, handsets and accounts that the script
-- does not have are faults.
use Rattle.std.specs.Prelude.{ℕ, ◌+◌, List, [], ◌∷◌, Bool, true, false, if◌then◌else◌, Option, Some, None, Result, Ok, Err}
use Rattle.std.specs.Str.{bytes_eq, chars}
use Rattle.sms_base.specs.declared.carried.Carried.{Carried}
use Rattle.sms_base.specs.declared.holder.Holder.{Holder}
use Rattle.sms_centre_spec.specs.declared.event.CentreEvent.{CentreEvent}
use Rattle.sms_centre_spec.specs.declared.event.CentreEvent.TheVariants.{Submit as CentreSubmit, Query as CentreQuery, Cancel as CentreCancel}
use Rattle.sms_centre_spec.specs.declared.event.CentreEvent.TheVariants.{Frame as CentreFrame, Tick as CentreTick}
use Rattle.sms_intake.specs.declared.submission.CentreAccount.{CentreAccount}
use Rattle.sms_handset.specs.declared.event.HandsetEvent.{HandsetEvent}
use Rattle.sms_handset.specs.declared.event.HandsetEvent.TheVariants.{Frame as HandsetFrame, Tick as HandsetTick, Write as HandsetWrite}
use Rattle.sms_handset.specs.declared.event.HandsetEvent.TheVariants.{Delete as HandsetDelete, Discard as HandsetDiscard}
use Rattle.sms_script.specs.declared.report.rows.Direction.{Direction}
use Rattle.sms_script.specs.declared.report.rows.Direction.TheVariants.{Up, Down}
use Rattle.sms_script.specs.declared.report.rows.FrameRow.{FrameRow}
use Rattle.sms_script.specs.declared.event.Act.{Act}
use Rattle.sms_script.specs.declared.event.Act.TheVariants.{Submit, Query, Cancel, Write, Delete, Discard, Deliver, Tick}
use Rattle.sms_script.specs.declared.event.EventSide.{EventSide}
use Rattle.sms_script.specs.declared.event.EventSide.TheVariants.{Centre, Handset}
use Rattle.sms_script.specs.Requests.{cancel_of, query_of, submit_of}
use Rattle.sms_script.specs.declared.play_fault.PlayFault.{PlayFault}
use Rattle.sms_script.specs.declared.play_fault.PlayFault.TheVariants.{NoSuchFrame, NoSuchSide, NoSuchAccount}
use Rattle.sms_play.specs.PlayState.{PlayState, Party, party_at, frame_at}

-- an event of the centre, or of a handset
pub data Meeting : Type 0 where
  AtCentre : CentreEvent → Meeting
  AtHandset : Party → HandsetEvent → Meeting

-- ---- accounts

-- the place of the account of that name, from a place on
abbrev pub account_from : ℕ → List ℕ → List CentreAccount → Option ℕ
account_from place name [] = None
account_from place name (a ∷ others) = if bytes_eq a.name name then Some place else account_from (place + 1) name others

abbrev pub by_account : ℕ → (ℕ → CentreEvent) → Option ℕ → Result Meeting PlayFault
by_account event request None = Err (NoSuchAccount event)
by_account event request (Some place) = Ok (AtCentre (request place))

abbrev pub asked_by : ℕ → List ℕ → (ℕ → CentreEvent) → PlayState → Result Meeting PlayFault
asked_by event name request c = by_account event request (account_from 0 name c.centre.rows.setup.accounts)

-- ---- handsets

abbrev pub by_handset : HandsetEvent → ℕ → Option Party → Result Meeting PlayFault
by_handset e event None = Err (NoSuchSide event)
by_handset e event (Some party) = Ok (AtHandset party e)

abbrev pub at_handset : ℕ → List ℕ → HandsetEvent → PlayState → Result Meeting PlayFault
at_handset event number e c = by_handset e event (party_at number c.parties)

-- ---- frames

abbrev pub tag_in : Option Carried → Option Holder
tag_in None = None
tag_in (Some carried) = Some carried.tag

-- a frame is for the centre, or for its handset
abbrev pub handed_over : ℕ → Direction → FrameRow → PlayState → Result Meeting PlayFault
handed_over event Up f c = Ok (AtCentre (CentreFrame f.handset f.octets (tag_in f.carried)))
handed_over event Down f c = at_handset event f.handset (HandsetFrame f.octets (tag_in f.carried)) c

abbrev pub delivered : ℕ → Option FrameRow → PlayState → Result Meeting PlayFault
delivered event None c = Err (NoSuchFrame event)
delivered event (Some f) c = handed_over event f.direction f c

-- ---- timers

abbrev pub ticked : ℕ → ℕ → EventSide → PlayState → Result Meeting PlayFault
ticked event now Centre c = Ok (AtCentre (CentreTick now))
ticked event now (Handset number) c = at_handset event number (HandsetTick now) c

-- ---- every act

abbrev pub meeting_of : ℕ → Act → PlayState → Result Meeting PlayFault
meeting_of event (Submit s) c = asked_by event s.name (λ (place : ℕ). CentreSubmit place (submit_of s)) c
meeting_of event (Query name id) c = asked_by event name (λ (place : ℕ). CentreQuery place (query_of id)) c
meeting_of event (Cancel name id) c = asked_by event name (λ (place : ℕ). CentreCancel place (cancel_of id)) c
meeting_of event (Write handset to report text) c = at_handset event handset (HandsetWrite (chars text) to report) c
meeting_of event (Delete handset entry) c = at_handset event handset (HandsetDelete entry) c
meeting_of event (Discard handset entry) c = at_handset event handset (HandsetDiscard entry) c
meeting_of event (Deliver number) c = delivered event (frame_at number c.bag) c
meeting_of event (Tick side now) c = ticked event now side c

-- requests and acts of owners are answered
abbrev pub is_answered : Act → Bool
is_answered (Submit s) = true
is_answered (Query name id) = true
is_answered (Cancel name id) = true
is_answered (Write handset to report text) = true
is_answered (Delete handset entry) = true
is_answered (Discard handset entry) = true
is_answered (Deliver number) = false
is_answered (Tick side now) = false

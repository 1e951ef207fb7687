-- What the centre is told of an act is an event.
use Rattle.std.proofs.Common.{◌≡◌, ℕ, List, sym, subst, Option, Some, None, Result, Ok, Err}
use Rattle.std.specs.Prelude.{OnOk}
use Rattle.sms_centre_spec.specs.SoundCore.{IsEvent}
use Rattle.sms_centre_spec.specs.declared.event.CentreEvent.{CentreEvent}
use Rattle.sms_centre_spec.specs.declared.event.CentreEvent.TheVariants.{Cancel as CentreCancel, Query as CentreQuery, Submit as CentreSubmit}
use Rattle.sms_play.specs.growth.Growth.{IsCentreEvent}
use Rattle.sms_handset.specs.declared.event.HandsetEvent.{HandsetEvent}
use Rattle.sms_handset.specs.declared.event.HandsetEvent.TheVariants.{Delete as HandsetDelete, Discard as HandsetDiscard, Tick as HandsetTick, Write as HandsetWrite}
use Rattle.std.specs.Str.{chars}
use Rattle.sms_play.specs.PlayState.{PlayState, Party, party_at}
use Rattle.sms_play.specs.Meeting.{account_from, by_account, by_handset, meeting_of}
use Rattle.sms_script.specs.Requests.{cancel_of, query_of, submit_of}
use Rattle.sms_script.specs.declared.event.Act.{Act}
use Rattle.sms_script.specs.declared.event.Act.TheVariants.{Cancel, Deliver, Delete, Discard, Query, Submit, Tick, Write}
use Rattle.sms_script.specs.declared.event.EventSide.{EventSide}
use Rattle.sms_script.specs.declared.event.EventSide.TheVariants.{Handset}

-- however a call ended
pub anyhow : {X E : Type 0} (res : Result X E) (P : Type 0) → P → OnOk res P
anyhow (Ok x) P is = is
anyhow (Err e) P is = tt

-- a request of an account
requests_fit : (event : ℕ) (request : ℕ → CentreEvent) (o : Option ℕ) → ((place : ℕ) → IsEvent (request place)) → IsCentreEvent (by_account event request o)
requests_fit event request None is = tt
requests_fit event request (Some place) is = is place

-- what a handset is told is none of the centre's
pub handsets_fit : (event : ℕ) (e : HandsetEvent) (o : Option Party) → IsCentreEvent (by_handset e event o)
handsets_fit event e None = tt
handsets_fit event e (Some party) = tt

-- acts that bring the centre neither octets nor a moment
abbrev pub BringsNone : Act → Type 0
BringsNone (Submit s) = Unit {0}
BringsNone (Query name id) = Unit {0}
BringsNone (Cancel name id) = Unit {0}
BringsNone (Write handset to report text) = Unit {0}
BringsNone (Delete handset entry) = Unit {0}
BringsNone (Discard handset entry) = Unit {0}
BringsNone (Deliver number) = ⊥
BringsNone (Tick side now) = ⊥

fits_bare : (event : ℕ) (act : Act) (c : PlayState) → BringsNone act → IsCentreEvent (meeting_of event act c)
fits_bare event (Submit s) c none = requests_fit event (λ (place : ℕ). CentreSubmit place (submit_of s)) (account_from 0 s.name c.centre.rows.setup.accounts) (λ place. tt)
fits_bare event (Query name id) c none = requests_fit event (λ (place : ℕ). CentreQuery place (query_of id)) (account_from 0 name c.centre.rows.setup.accounts) (λ place. tt)
fits_bare event (Cancel name id) c none = requests_fit event (λ (place : ℕ). CentreCancel place (cancel_of id)) (account_from 0 name c.centre.rows.setup.accounts) (λ place. tt)
fits_bare event (Write handset to report text) c none = handsets_fit event (HandsetWrite (chars text) to report) (party_at handset c.parties)
fits_bare event (Delete handset entry) c none = handsets_fit event (HandsetDelete entry) (party_at handset c.parties)
fits_bare event (Discard handset entry) c none = handsets_fit event (HandsetDiscard entry) (party_at handset c.parties)
fits_bare event (Deliver number) c none = absurd none
fits_bare event (Tick side now) c none = absurd none

-- an act that is one of them
pub fits_as : {X E : Type 0} (res : Result X E) (event : ℕ) (act bare : Act) (c : PlayState) → act ≡ bare → BringsNone bare → OnOk res (IsCentreEvent (meeting_of event act c))
fits_as res event act bare c is none =
    anyhow res (IsCentreEvent (meeting_of event act c)) (subst (λ (a : Act). IsCentreEvent (meeting_of event a c)) (sym is) (fits_bare event bare c none))

-- a tick of a handset
pub handset_ticks : (event now : ℕ) (side : EventSide) (number : List ℕ) (c : PlayState) → side ≡ Handset number → IsCentreEvent (meeting_of event (Tick side now) c)
handset_ticks event now side number c is =
    subst (λ (s : EventSide). IsCentreEvent (meeting_of event (Tick s now) c)) (sym is) (handsets_fit event (HandsetTick now) (party_at number c.parties))

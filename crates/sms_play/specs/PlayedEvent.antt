-- An event of a script: an act that is done, an act that is stopped with its side, and a side that restarts.
use Rattle.std.specs.Prelude.{ℕ, ◌+◌, List, [], ◌∷◌, Bool, true, if◌then◌else◌, Option, Some, None, Result, Ok, Err}
use Rattle.sms_base.specs.Reading.{◌>>=◌}
use Rattle.sms_centre_spec.specs.declared.event.CentreEvent.{CentreEvent}
use Rattle.sms_intake.specs.declared.submission.CentreAccount.{CentreAccount}
use Rattle.sms_handset.specs.declared.event.HandsetEvent.{HandsetEvent}
use Rattle.sms_handset.specs.declared.refusal.Refusal.{Refusal}
use Rattle.sms_script.specs.declared.report.answers.Answered.TheVariants.{Stopped as AnsweredStopped}
use Rattle.sms_centre_rows.specs.reports.Receipts.{Session}
use Rattle.sms_script.specs.declared.event.Act.{Act}
use Rattle.sms_script.specs.declared.event.EventSide.{EventSide}
use Rattle.sms_script.specs.declared.event.EventSide.TheVariants.{Centre, Handset}
use Rattle.sms_script.specs.declared.event.StopPoint.{StopPoint}
use Rattle.sms_script.specs.declared.event.StopPoint.TheVariants.{Before, After}
use Rattle.sms_script.specs.declared.event.WorldEvent.{WorldEvent}
use Rattle.sms_script.specs.declared.event.WorldEvent.TheVariants.{Whole, Stopped, Restart}
use Rattle.sms_centre_spec.specs.CentreEvent.{happened, recovered}
use Rattle.sms_handset_draft.specs.Draft.{Draft as HandsetDraft, recovered as handset_recovered}
use Rattle.sms_script.specs.declared.play_fault.PlayFault.{PlayFault}
use Rattle.sms_script.specs.declared.play_fault.PlayFault.TheVariants.{NoSuchSide}
use Rattle.sms_play.specs.CentreSide.{centre_meets, committed as centre_committed}
use Rattle.sms_play.specs.PlayState.{PlayState, Party, answer, numbers_of, party_at, with_party}
use Rattle.sms_play.specs.HandsetSide.{handset_meets, happened as handset_happened, committed as handset_committed}
use Rattle.sms_play.specs.Meeting.{Meeting, AtCentre, AtHandset, meeting_of, is_answered}

-- ---- an act that is done

abbrev pub met : ℕ → Meeting → PlayState → PlayState
met event (AtCentre e) c = centre_meets event e c
met event (AtHandset party e) c = handset_meets event party e c

-- ---- restarts

-- a session of each account is bound, under the account's place
abbrev pub sessions_from : ℕ → List CentreAccount → List Session
sessions_from place [] = []
sessions_from place (a ∷ others) =
    record { number = place; account = a.name; receives = true; unanswered = [] } ∷ sessions_from (place + 1) others

-- its links are up from its next tick on
abbrev pub centre_restarted : PlayState → PlayState
centre_restarted c = record c {
  centre = recovered c.centre.rows (numbers_of c.parties) (sessions_from 0 c.centre.rows.setup.accounts);
}

abbrev pub party_restarted : Party → PlayState → PlayState
party_restarted party c = record c { parties = with_party (record party { core = handset_recovered party.core.rows }) c.parties }

-- the handset restarts as it is now
abbrev pub handset_restarted : Option Party → PlayState → PlayState
handset_restarted None c = c
handset_restarted (Some party) c = party_restarted party c

-- ---- an act that is stopped before its store call, or after it: its side restarts, and nothing is sent

abbrev pub handset_stored : Party → Result HandsetDraft Refusal → PlayState → PlayState
handset_stored party (Ok d) c = handset_committed party d c
handset_stored party (Err refusal) c = c

-- what the store has of it
abbrev pub stored : StopPoint → Meeting → PlayState → PlayState
stored Before meeting c = c
stored After (AtCentre e) c = centre_committed (happened e c.centre) c
stored After (AtHandset party e) c = handset_stored party (handset_happened e party.core) c

abbrev pub restarted : Meeting → PlayState → PlayState
restarted (AtCentre e) c = centre_restarted c
restarted (AtHandset party e) c = handset_restarted (party_at party.number c.parties) c

abbrev pub stopped : ℕ → Act → StopPoint → Meeting → PlayState → PlayState
stopped event act stop meeting c =
    let d : PlayState = restarted meeting (stored stop meeting c) in
    if is_answered act then answer event AnsweredStopped d else d

-- ---- every event

abbrev pub handset_restarts : ℕ → Option Party → PlayState → Result PlayState PlayFault
handset_restarts event None c = Err (NoSuchSide event)
handset_restarts event (Some party) c = Ok (party_restarted party c)

abbrev pub restart : ℕ → EventSide → PlayState → Result PlayState PlayFault
restart event Centre c = Ok (centre_restarted c)
restart event (Handset number) c = handset_restarts event (party_at number c.parties) c

abbrev pub played : ℕ → WorldEvent → PlayState → Result PlayState PlayFault
played event (Whole act) c = meeting_of event act c >>= λ (m : Meeting). Ok (met event m c)
played event (Stopped stop act) c = meeting_of event act c >>= λ (m : Meeting). Ok (stopped event act stop m c)
played event (Restart side) c = restart event side c

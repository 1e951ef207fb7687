-- What a run does: the events that a handset meets, one after the other, and what they put on the link.
use Rattle.std.specs.Prelude.{◌≡◌, ℕ, List, [], ◌∷◌, ◌++◌, map, Option, None, Result, Ok, Err}
use Rattle.std.specs.Io.KnownBytes.{Appends}
use Rattle.sms_link.specs.declared.outgoing.Outgoing.{Outgoing}
use Rattle.sms_link.specs.framing.Framing.{joined}
use Rattle.sms_handset_draft.specs.Draft.{Core, Draft, HandsetOf}
use Rattle.sms_handset_draft.specs.Outcome.{outcome_of}
use Rattle.sms_handset.specs.Planning.{adopted}
use Rattle.sms_handset.specs.declared.event.HandsetEvent.{HandsetEvent}
use Rattle.sms_handset.specs.declared.event.HandsetEvent.TheVariants.{Frame}
use Rattle.sms_handset.specs.declared.refusal.Refusal.{Refusal}
use Rattle.sms_handset.specs.machine.Stepping.{happened}
use Rattle.sms_handset.specs.declared.machine.step_error.StepError.{StepError}
use Rattle.sms_handset.specs.declared.machine.step_error.StepError.TheVariants.{Refused, NoMemory, Store}

-- frames on the link, each behind its length
abbrev pub on_link : List Outgoing → List ℕ
on_link frames = joined (map (λ frame. frame.octets) frames)

-- what an event leads to and puts on the link: nothing where it is refused
abbrev pub SendsBy : Result Draft Refusal → Core → Core → List ℕ → Type 0
SendsBy (Ok d) before after out = (after ≡ adopted (outcome_of d) before) × (out ≡ on_link d.frames)
SendsBy (Err refusal) before after out = (after ≡ before) × (out ≡ [])

abbrev pub Sends : HandsetEvent → Core → Core → List ℕ → Type 0
Sends event before after out = SendsBy (happened event before) before after out

-- What was asked is done, or the handset is as it was: the event is refused, or memory was wanted or the store refused it.
abbrev pub Does : Result (List Outgoing) StepError → HandsetOf → HandsetOf → Result Draft Refusal → Type 0
Does (Ok frames) old new wanted = (d : Draft) × ((wanted ≡ Ok d) × (frames ≡ d.frames) × (new.core ≡ adopted (outcome_of d) old.core))
Does (Err (Refused refusal)) old new wanted = (wanted ≡ Err refusal) × (new ≡ old)
Does (Err NoMemory) old new wanted = new ≡ old
Does (Err (Store error)) old new wanted = new ≡ old

-- events one after the other
abbrev pub Follows : List HandsetEvent → Core → Core → List ℕ → Type 0
Follows [] before after out = (after ≡ before) × (out ≡ [])
Follows (event ∷ events) before after out =
    (mid : Core) × (first : List ℕ) × (rest : List ℕ) × (Sends event before mid first × Follows events mid after rest × (out ≡ first ++ rest))

-- a frame that was received over a link
abbrev pub received : List ℕ → HandsetEvent
received octets = Frame octets None

-- A part of a run: it met these events, and what they put on the link was written there.
abbrev pub Meets : List HandsetEvent → Core → Core → Option (List ℕ) → Option (List ℕ) → Type 0
Meets events before after held holds = (out : List ℕ) × (Follows events before after out × Appends held holds out)

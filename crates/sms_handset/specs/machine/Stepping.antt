-- What a step of a handset over its store does.
use Rattle.std.specs.Prelude.{◌≡◌, ◌⊎◌, List, Result, Ok, Err}
use Rattle.sms_link.specs.declared.outgoing.Outgoing.{Outgoing}
use Rattle.sms_handset_draft.specs.Draft.{Core, Draft, HandsetOf, rows_after}
use Rattle.sms_handset_draft.specs.Outcome.{changes_in, outcome_of}
use Rattle.sms_handset_draft.specs.declared.rows.Changes.{Changes}
use Rattle.sms_handset_draft.specs.declared.rows.Rows.{Rows}
use Rattle.sms_handset.specs.HandsetEvent.{deleted, discarded, frame_received, tag_of, ticked, wrote}
use Rattle.sms_handset.specs.Planning.{adopted}
use Rattle.sms_handset.specs.declared.event.HandsetEvent.{HandsetEvent}
use Rattle.sms_handset.specs.declared.event.HandsetEvent.TheVariants.{Frame, Tick, Write, Delete, Discard}
use Rattle.sms_handset.specs.declared.refusal.PlanError.{PlanError}
use Rattle.sms_handset.specs.declared.refusal.PlanError.TheVariants.{Refused as PlanRefused, NoMemory as NoPlan}
use Rattle.sms_handset.specs.declared.refusal.Refusal.{Refusal}
use Rattle.sms_handset.specs.declared.machine.step_error.StepError.{StepError}
use Rattle.sms_handset.specs.declared.machine.step_error.StepError.TheVariants.{Refused, NoMemory, Store}

-- a commit of a keep makes of the rows what a handset's changes make of them
abbrev pub MakesTheChanges : (Changes → Rows → Rows) → Type 0
MakesTheChanges after = (changes : Changes) (rows : Rows) → after changes rows ≡ rows_after (changes_in changes) rows

-- what the definition of a handset does with an event
abbrev pub happened : HandsetEvent → Core → Result Draft Refusal
happened (Frame octets tag) c = Ok (frame_received octets (tag_of tag) c)
happened (Tick now) c = Ok (ticked now c)
happened (Write text to report) c = wrote text to report c
happened (Delete entry) c = deleted entry c
happened (Discard entry) c = discarded entry c

-- the same refusal, or want of memory
abbrev pub of_plan : PlanError → StepError
of_plan (PlanRefused refusal) = Refused refusal
of_plan NoPlan = NoMemory

-- The frames and the handset after the event, or why it is as it was. The event is refused, or memory was wanted, or
-- the store refused what the event changes.
abbrev pub Steps : Result (List Outgoing) StepError → HandsetOf → HandsetOf → Result Draft Refusal → Type 0
Steps (Ok frames) old new wanted = (d : Draft) × ((wanted ≡ Ok d) × (frames ≡ d.frames) × (new.core ≡ adopted (outcome_of d) old.core))
Steps (Err (Refused refusal)) old new wanted = (wanted ≡ Err refusal) × (new ≡ old)
Steps (Err NoMemory) old new wanted = ((d : Draft) × (wanted ≡ Ok d)) × (new ≡ old)
Steps (Err (Store error)) old new wanted = ((d : Draft) × (wanted ≡ Ok d)) × (new ≡ old)

-- nothing was to be committed yet
abbrev pub IsBeforeCommit : Result (List Outgoing) StepError → Type 0
IsBeforeCommit (Ok frames) = ⊥
IsBeforeCommit (Err (Refused refusal)) = Unit {0}
IsBeforeCommit (Err NoMemory) = Unit {0}
IsBeforeCommit (Err (Store error)) = ⊥

-- the rows from before an event, or those after it
abbrev pub IsBeforeOrAfter : Rows → Rows → Result Draft Refusal → Type 0
IsBeforeOrAfter left rows wanted = (left ≡ rows) ⊎ ((d : Draft) × ((wanted ≡ Ok d) × (left ≡ rows_after d.changes rows)))

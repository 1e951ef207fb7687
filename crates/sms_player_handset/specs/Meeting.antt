-- What a handset of a script in play does with an event, and what its events have in common.
use Rattle.std.specs.Prelude.{◌≡◌, ℕ, max, List, ◌++◌, Result, Ok, Err}
use Rattle.sms_handset_draft.specs.Draft.{Core, Draft}
use Rattle.sms_handset.specs.declared.event.HandsetEvent.{HandsetEvent}
use Rattle.sms_handset.specs.declared.event.HandsetEvent.TheVariants.{Frame, Tick, Write, Delete, Discard}
use Rattle.sms_handset.specs.declared.refusal.Refusal.{Refusal}
use Rattle.sms_handset.specs.Planning.{IsRevisedIfDone}
use Rattle.sms_play.specs.PlayState.{Party}
use Rattle.sms_play.specs.HandsetSide.{given_by, happened, party_after}
use Rattle.sms_player_handset.specs.declared.played.HandsetOutcome.{HandsetOutcome}
use Rattle.sms_player_handset.specs.declared.played.HandsetOutcome.TheVariants.{Done, Refused}
use Rattle.sms_script.specs.declared.report.rows.GivenRow.{GivenRow}

-- The handset after what was wanted, with the references that it gave behind those before, and the frames that it sends. Or it is
-- refused alike, and nothing has changed, or there was no memory.
abbrev pub Meets : {E : Type 0} → Result HandsetOutcome E → Party → Party → List GivenRow → List GivenRow → Result Draft Refusal → Type 0
Meets (Ok (Done frames)) old new before after wanted =
    (d : Draft) × ((wanted ≡ Ok d) × (frames ≡ d.frames) × (new ≡ party_after old d) × (after ≡ before ++ given_by old d))
Meets (Ok (Refused refusal)) old new before after wanted = (wanted ≡ Err refusal) × (new ≡ old) × (after ≡ before)
Meets (Err error) old new before after wanted = Unit {0}

-- ---- what events have in common

-- the handset's moment after the event
abbrev pub moment_after : ℕ → HandsetEvent → ℕ
moment_after moment (Frame octets tag) = moment
moment_after moment (Tick now) = max moment now
moment_after moment (Write text to report) = moment
moment_after moment (Delete entry) = moment
moment_after moment (Discard entry) = moment

abbrev pub KeepsMomentsLaw : Type 0
KeepsMomentsLaw = (event : HandsetEvent) (c : Core) (d : Draft) → happened event c ≡ Ok d → d.moment ≡ moment_after c.moment event

abbrev pub RevisedLaw : Type 0
RevisedLaw = (event : HandsetEvent) (c : Core) → IsRevisedIfDone c.rows (happened event c)

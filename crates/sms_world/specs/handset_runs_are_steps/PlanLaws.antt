-- What a handset plans leads on in the world, and the handset that adopts the plan sees where.
use Rattle.std.specs.Prelude.{◌≡◌, ℕ, List, false, Ok}
use Rattle.sms_handset_draft.specs.Draft.{Core, Draft, HandsetOf, draft_of}
use Rattle.sms_world_model.specs.World.{World}
use Rattle.sms_world_model.specs.ScriptRun.{Event, IsPlayed, items, Handed, Removed, Tick_handset, Wrote}
use Rattle.sms_world_model.specs.Sides.{AllOfHandset}
use Rattle.sms_world_model.specs.WorldStep.{Step, Run, end}
use Rattle.sms_handset.specs.Planning.{OfDelete, OfDiscard, OfFrame, OfTick, OfWrite, PlanOf, Plans, IsRevised, adopted}
use Rattle.sms_handset_draft.specs.Outcome.{Outcome, outcome_of}
use Rattle.sms_handset.specs.HandsetEvent.{deleted, discarded, frame_received, tag_of, ticked, wrote}
use Rattle.sms_handset.specs.SoundCore.{IsSoundCore}
use Rattle.sms_handset.specs.declared.event.HandsetEvent.{HandsetEvent}
use Rattle.sms_handset.specs.declared.event.HandsetEvent.TheVariants.{Frame, Tick, Write, Delete, Discard}
use Rattle.sms_world.specs.frames_pass_between_sides.FramesUp.{stacked}
use Rattle.sms_world.specs.frames_pass_between_sides.FramesDown.{IsHanded}
use Rattle.sms_world.specs.handset_runs_are_steps.PutInOrder.{AreNoted}
use Rattle.sms_world.specs.handset_runs_are_steps.Refinement.{Refines}

-- The plan leads on. Its event is steps of the world, all of them the handset's own. The frames that it hands out are put on top of the
-- bag. What its changes put is accepted and joined. The handset that adopts it sees where the steps lead.
abbrev pub LeadsOn : ℕ → Event → List ℕ → HandsetOf → PlanOf → World → Type 0
LeadsOn m event h s plan w =
    (steps : List Step)
    × ((IsPlayed w event steps × AllOfHandset h steps) × Run w (items m false steps) × ((end w (items m false steps)).bag ≡ stacked h plan.outcome.frames w.bag)
    × AreNoted h plan.outcome.changes w (end w (items m false steps))
    × Refines h (end w (items m false steps)) (draft_of (adopted plan.outcome s.core)) (end w (items m false steps)))

-- what `Handset::plan` says of the plan of an event
pub record IsPlanned (plan : PlanOf) (s : HandsetOf) (event : HandsetEvent) : Type 0 where
  pub frame : OfFrame event (λ octets tag. Plans (Ok plan) s (Ok (frame_received octets (tag_of tag) s.core)))
  pub tick : OfTick event (λ now. Plans (Ok plan) s (Ok (ticked now s.core)))
  pub write : OfWrite event (λ text to report. Plans (Ok plan) s (wrote text to report s.core))
  pub delete : OfDelete event (λ entry. Plans (Ok plan) s (deleted entry s.core))
  pub discard : OfDiscard event (λ entry. Plans (Ok plan) s (discarded entry s.core))

-- the event of a script that it is; a frame is handed over by its number
abbrev pub event_seen : ℕ → HandsetEvent → Event
event_seen number (Frame octets tag) = Handed number
event_seen number (Tick now) = Tick_handset
event_seen number (Write text to report) = Wrote
event_seen number (Delete entry) = Removed
event_seen number (Discard entry) = Removed

abbrev pub PlanLaw : Type 0
PlanLaw =
    (m : ℕ) (h : List ℕ) (number : ℕ) (event : HandsetEvent) (s : HandsetOf) (plan : PlanOf) (w : World) → IsPlanned plan s event → IsSoundCore s.core
    → Refines h w (draft_of s.core) w
    → OfFrame event (λ octets tag. IsHanded h number octets (tag_of tag) w) → LeadsOn m (event_seen number event) h s plan w

-- whoever adopts what an event led to sees the world that the event led to
abbrev pub AdoptedLaw : Type 0
AdoptedLaw =
    (h : List ℕ) (b : World) (o : Outcome) (c : Core) (d : Draft) (w : World) → o ≡ outcome_of d → IsRevised c.rows d → Refines h b d w
    → Refines h w (draft_of (adopted o c)) w

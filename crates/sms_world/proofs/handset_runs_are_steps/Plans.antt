-- What a handset plans leads on in the world.
use Rattle.std.proofs.Common.{◌≡◌, ℕ, List, false, sym, ◌∙◌, ap, subst, Result, Ok}
use Rattle.sms_handset.specs.declared.refusal.Refusal.{Refusal}
use Rattle.sms_handset_draft.specs.Draft.{Draft, HandsetOf, draft_of}
use Rattle.sms_handset.specs.HandsetEvent.{deleted, discarded, frame_received, tag_of, ticked, wrote}
use Rattle.sms_handset.specs.declared.event.HandsetEvent.{HandsetEvent}
use Rattle.sms_handset.specs.SoundCore.{IsSoundCore}
use Rattle.sms_world.specs.frames_pass_between_sides.FramesDown.{IsHanded}
use Rattle.sms_handset.specs.declared.event.HandsetEvent.TheVariants.{Frame, Tick, Write, Delete, Discard}
use Rattle.sms_handset.specs.Planning.{OfFrame, PlanOf, Plans, IsRevised, IsRevisedIfDone}
use Rattle.sms_handset_draft.specs.Outcome.{Outcome, outcome_of}
use Rattle.sms_handset.proofs.Resting.{delete_rests, discard_rests, frame_rests, tick_rests, write_rests}
use Rattle.sms_world_model.specs.ScriptRun.{items, Event, Handed, Removed, Tick_handset, Wrote}
use Rattle.sms_world_model.specs.WorldStep.{end}
use Rattle.sms_world_model.specs.World.{World}
use Rattle.sms_world.specs.handset_runs_are_steps.EventLaws.{IfDone}
use Rattle.sms_world.specs.frames_pass_between_sides.FramesUp.{stacked}
use Rattle.sms_world.specs.handset_runs_are_steps.PlanLaws.{IsPlanned, LeadsOn, PlanLaw, event_seen}
use Rattle.sms_world.specs.handset_runs_are_steps.PutInOrder.{AreNoted}
use Rattle.sms_world.specs.handset_runs_are_steps.Refinement.{Refines}
use Rattle.sms_world.specs.handset_runs_are_steps.Stages.{Happens}
use Rattle.sms_world.proofs.handset_runs_are_steps.HandsetEvents.{adopted_seen, frame_event}
use Rattle.sms_world.proofs.handset_runs_are_steps.OwnersEvents.{delete_event, discard_event}
use Rattle.sms_world.proofs.handset_runs_are_steps.Ticks.{tick_event}
use Rattle.sms_world.proofs.handset_runs_are_steps.WriteEvents.{write_event}

-- the plan has what came of a draft, to which the event leads
abbrev pub IsDrafted : ℕ → Event → List ℕ → HandsetOf → PlanOf → World → Type 0
IsDrafted m event h s plan w = (d : Draft) × ((plan.outcome ≡ outcome_of d) × IsRevised s.core.rows d × Happens m event h w d w)

drafted : (m : ℕ) (event : Event) (h : List ℕ) (s : HandsetOf) (plan : PlanOf) (w : World) (wanted : Result Draft Refusal) → Plans (Ok plan) s wanted
    → IfDone (λ (z : Draft). Happens m event h w z w) wanted → IsRevisedIfDone s.core.rows wanted → IsDrafted m event h s plan w
drafted m event h s plan w wanted (d, (e, p)) happens rests =
    (d, (p.outcome, subst (λ (r : Result Draft Refusal). IsRevisedIfDone s.core.rows r) e rests, subst (λ (r : Result Draft Refusal). IfDone (λ (z : Draft). Happens m event h w z w) r) e happens))

leads : (m : ℕ) (event : Event) (h : List ℕ) (s : HandsetOf) (plan : PlanOf) (w : World) → IsDrafted m event h s plan w → LeadsOn m event h s plan w
leads m event h s plan w (d, (o, q, y)) =
    let v : World = end w (items m false y.0) in
    let seen : Refines h w d v = y.1.2 in
    let kept : AreNoted h d.changes w v = record { accepted = seen.accepted; joined = seen.joined } in (
      y.0,
      (
        y.1.0,
        y.1.1,
        seen.frames ∙ ap (λ (z : Outcome). stacked h z.frames w.bag) (sym o),
        subst (λ (z : Outcome). AreNoted h z.changes w v) (sym o) kept,
        adopted_seen h w plan.outcome s.core d v o q seen,
      ),
    )

pub event_happens : (m : ℕ) (h : List ℕ) (number : ℕ) (event : HandsetEvent) (s : HandsetOf) (plan : PlanOf) (w : World) → IsPlanned plan s event → IsSoundCore s.core → Refines h w (draft_of s.core) w
    → OfFrame event (λ octets tag. IsHanded h number octets (tag_of tag) w) → IsDrafted m (event_seen number event) h s plan w
event_happens m h number (Frame octets tag) s plan w p sound k i =
    drafted m (Handed number) h s plan w (Ok (frame_received octets (tag_of tag) s.core)) p.frame (frame_event m h number octets (tag_of tag) s.core w sound k i) (frame_rests octets (tag_of tag) s.core)
event_happens m h number (Tick now) s plan w p sound k i = drafted m Tick_handset h s plan w (Ok (ticked now s.core)) p.tick (tick_event m h now s.core w sound k) (tick_rests now s.core)
event_happens m h number (Write text to report) s plan w p sound k i =
    drafted m Wrote h s plan w (wrote text to report s.core) p.write (write_event m h text to report s.core w sound k) (write_rests text to report s.core)
event_happens m h number (Delete entry) s plan w p sound k i = drafted m Removed h s plan w (deleted entry s.core) p.delete (delete_event m h entry s.core w sound k) (delete_rests entry s.core)
event_happens m h number (Discard entry) s plan w p sound k i = drafted m Removed h s plan w (discarded entry s.core) p.discard (discard_event m h entry s.core w sound k) (discard_rests entry s.core)

pub event_planned : PlanLaw
event_planned m h number event s plan w p sound k i = leads m (event_seen number event) h s plan w (event_happens m h number event s plan w p sound k i)

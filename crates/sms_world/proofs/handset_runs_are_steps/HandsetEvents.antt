-- The events of a handset are steps of the world.
use Rattle.std.proofs.Common.{◌≡◌, ℕ, List, refl, sym, ◌∙◌, ap, subst}
use Rattle.sms_base.specs.declared.holder.Holder.{Holder}
use Rattle.sms_control.specs.LinkStep.{Step, take_step}
use Rattle.sms_handset_draft.specs.declared.rows.Rows.{Rows}
use Rattle.sms_handset_draft.specs.Draft.{Core, Draft, core_of, draft_of, link_of, with_turn}
use Rattle.sms_link.specs.LinkTurn.{Turn, taken}
use Rattle.sms_handset.specs.HandsetEvent.{frame_received}
use Rattle.sms_handset_draft.specs.FramesAndTicks.{frame_heard}
use Rattle.sms_handset.specs.Planning.{IsRevised, adopted}
use Rattle.sms_handset_draft.specs.Outcome.{Outcome, outcome_of}
use Rattle.sms_handset.specs.SoundCore.{IsSoundCore}
use Rattle.sms_handset.proofs.SoundDrafts.{SoundAt, sound_from}
use Rattle.sms_handset.proofs.SoundEvents.{went_up_sound}
use Rattle.sms_world_model.specs.World.{World}
use Rattle.sms_world_model.specs.ScriptRun.{Handed}
use Rattle.sms_world.specs.frames_pass_between_sides.FramesDown.{IsHanded}
use Rattle.sms_world.specs.handset_runs_are_steps.Refinement.{Refines}
use Rattle.sms_world.specs.handset_runs_are_steps.Stages.{Happens}
use Rattle.sms_world.proofs.handset_runs_are_steps.FrameArrives.{handed_law}
use Rattle.sms_world.proofs.handset_runs_are_steps.Moving.{begins_then, handed}
use Rattle.sms_world.proofs.handset_runs_are_steps.Offering.{follow_law}

-- a frame that is handed over
pub frame_event : (m : ℕ) (h : List ℕ) (number : ℕ) (octets : List ℕ) (tag : Holder) (c : Core) (w : World) → IsSoundCore c → Refines h w (draft_of c) w → IsHanded h number octets tag w
    → Happens m (Handed number) h w (frame_received octets tag c) w
frame_event m h number octets tag c w sound s i =
    let d : Draft = draft_of c in
    let at : SoundAt d = sound_from c sound in
    let turn : Turn = taken octets (link_of d) in
    let step : Step = take_step octets c.links in
    let e : Draft = frame_heard tag turn d in
    let after : SoundAt e = went_up_sound tag step.out.up c.under_way (with_turn turn d) refl at in
    handed m h number w (frame_received octets tag c) w
    (begins_then m h (Handed number) w e (frame_received octets tag c) w (handed_law m h number tag w d w at s octets i) (λ v k. follow_law m h w e v after k))

-- the handset between two events sees the world that its last event led to
pub seen_next : (h : List ℕ) (b : World) (d : Draft) (w : World) → Refines h b d w → Refines h w (draft_of (core_of d)) w
seen_next h b d w s = record { frames = refl; whole = tt; links = s.links; last = s.last; accepted = refl; joined = refl; out = s.out; notices = s.notices; groups = s.groups }

-- ---- what a plan's adopting leads to

-- adopting what came of an event leads to the event's handset
adopted_is : (c : Core) (d : Draft) → IsRevised c.rows d → adopted (outcome_of d) c ≡ core_of d
adopted_is c d q = ap (λ (z : Rows). record (core_of d) { rows = z }) (sym q)

-- the handset that has adopted sees the world that the event's steps led to
pub adopted_seen : (h : List ℕ) (b : World) (o : Outcome) (c : Core) (d : Draft) (w : World) → o ≡ outcome_of d → IsRevised c.rows d → Refines h b d w → Refines h w (draft_of (adopted o c)) w
adopted_seen h b o c d w e q s =
    subst (λ (z : Core). Refines h w (draft_of z) w) (sym (ap (λ (z : Outcome). adopted z c) e ∙ adopted_is c d q)) (seen_next h b d w s)

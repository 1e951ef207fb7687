-- Every event of a handset is steps of the world.
use Rattle.std.specs.Prelude.{ℕ, List, Result, Ok, Err, Bool}
use Rattle.sms_base.specs.declared.holder.Holder.{Holder}
use Rattle.sms_handset_draft.specs.Draft.{Draft, Core, draft_of, recovered}
use Rattle.sms_world_model.specs.World.{World}
use Rattle.sms_handset_draft.specs.declared.setup.Setup.{Setup}
use Rattle.sms_handset.specs.HandsetEvent.{deleted, discarded, frame_received, ticked, wrote}
use Rattle.sms_handset.specs.declared.refusal.Refusal.{Refusal}
use Rattle.sms_handset.specs.SoundCore.{IsSoundCore}
use Rattle.sms_world_model.specs.ScriptRun.{Handed, Removed, Restarted, Tick_handset, Wrote}
use Rattle.sms_world.specs.frames_pass_between_sides.FramesDown.{IsHanded}
use Rattle.sms_world.specs.handset_runs_are_steps.Refinement.{Refines}
use Rattle.sms_world.specs.handset_runs_are_steps.Stages.{Happens}

abbrev pub FrameLaw : Type 0
FrameLaw =
    (m : ℕ) (h : List ℕ) (number : ℕ) (octets : List ℕ) (tag : Holder) (c : Core) (w : World) → IsSoundCore c → Refines h w (draft_of c) w
    → IsHanded h number octets tag w
    → Happens m (Handed number) h w (frame_received octets tag c) w

abbrev pub TickLaw : Type 0
TickLaw = (m : ℕ) (h : List ℕ) (now : ℕ) (c : Core) (w : World) → IsSoundCore c → Refines h w (draft_of c) w → Happens m Tick_handset h w (ticked now c) w

abbrev pub RestartLaw : Type 0
RestartLaw =
    (m : ℕ) (h : List ℕ) (c : Core) (setup : Setup) (w : World) → Refines h w (draft_of c) w
    → Happens m Restarted h w (draft_of (recovered (record c.rows { setup = setup }))) w

-- what an act that is done leads to; one that is refused is none
abbrev pub IfDone : (Draft → Type 0) → Result Draft Refusal → Type 0
IfDone P (Ok d) = P d
IfDone P (Err refusal) = Unit {0}

abbrev pub WriteLaw : Type 0
WriteLaw =
    (m : ℕ) (h : List ℕ) (text to : List ℕ) (report : Bool) (c : Core) (w : World) → IsSoundCore c → Refines h w (draft_of c) w
    → IfDone (λ (z : Draft). Happens m Wrote h w z w) (wrote text to report c)

abbrev pub DeleteLaw : Type 0
DeleteLaw =
    (m : ℕ) (h : List ℕ) (n : ℕ) (c : Core) (w : World) → IsSoundCore c → Refines h w (draft_of c) w
    → IfDone (λ (z : Draft). Happens m Removed h w z w) (deleted n c)

abbrev pub DiscardLaw : Type 0
DiscardLaw =
    (m : ℕ) (h : List ℕ) (n : ℕ) (c : Core) (w : World) → IsSoundCore c → Refines h w (draft_of c) w
    → IfDone (λ (z : Draft). Happens m Removed h w z w) (discarded n c)

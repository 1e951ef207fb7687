-- Stops and starts: what a handset says of the world that restarts after its store call, or is new.
use Rattle.std.specs.Prelude.{ℕ, List, [], true}
use Rattle.sms_handset_draft.specs.Draft.{Draft, draft_of, recovered}
use Rattle.sms_world_model.specs.World.{Sent, World, empty, with_frames}
use Rattle.sms_world_model.specs.ScriptRun.{Event, IsPlayed, items}
use Rattle.sms_world_model.specs.Sides.{AllOfHandset}
use Rattle.sms_world_model.specs.WorldStep.{Step, Run, end}
use Rattle.sms_handset_draft.specs.declared.counters.Counters.{Counters}
use Rattle.sms_handset_draft.specs.declared.setup.Setup.{Setup}
use Rattle.sms_world.specs.handset_runs_are_steps.PutInOrder.{AreNoted}
use Rattle.sms_world.specs.handset_runs_are_steps.Refinement.{Refines}
use Rattle.sms_world.specs.handset_runs_are_steps.Stages.{Happens}

-- an event that was stopped after its store call. The rows are those that it led to, none of its frames was sent, and
-- what is forgotten begins anew
abbrev pub StoppedLaw : Type 0
StoppedLaw =
    (h : List ℕ) (b : World) (bag : List Sent) (d : Draft) (setup : Setup) (w : World) → Refines h b d w
    → Refines h (with_frames bag w) (draft_of (recovered (record d.rows { setup = setup }))) (with_frames bag w)

-- such an event is steps of the handset that send nothing; the handset that recovers sees where they lead
abbrev pub StopLaw : Type 0
StopLaw =
    (m : ℕ) (event : Event) (h : List ℕ) (d : Draft) (setup : Setup) (w : World) → Happens m event h w d w
    → (steps : List Step)
    × ((IsPlayed w event steps × AllOfHandset h steps) × Run w (items m true steps)
    × Refines h (end w (items m true steps)) (draft_of (recovered (record d.rows { setup = setup }))) (end w (items m true steps))
    × AreNoted h d.changes w (end w (items m true steps)))

-- a handset without rows sees the empty world
abbrev pub StartLaw : Type 0
StartLaw =
    (h : List ℕ) (counters : Counters) (setup : Setup)
    → Refines h empty (draft_of (recovered (record { entries = []; last = []; outbox = []; marks = []; counters = counters; setup = setup }))) empty

-- A frame that is handed to the centre is steps of the world.
use Rattle.std.specs.Prelude.{ℕ, List, Option}
use Rattle.sms_base.specs.Reading.{AreOctets}
use Rattle.sms_base.specs.declared.holder.Holder.{Holder}
use Rattle.sms_centre_spec.specs.CentreEvent.{tag_of}
use Rattle.sms_centre_spec.specs.Draft.{Core, draft_of}
use Rattle.sms_centre_spec.specs.SoundCore.{IsSoundCore}
use Rattle.sms_centre_spec.specs.declared.event.CentreEvent.TheVariants.{Frame}
use Rattle.sms_centre_rows.specs.waiting.SoundAllocations.{IsNumber}
use Rattle.sms_world_model.specs.ScriptRun.{Handed}
use Rattle.sms_world_model.specs.World.{World}
use Rattle.sms_world.specs.centres_refine_the_world.CentreLaws.{LeadsOn}
use Rattle.sms_world.specs.centres_refine_the_world.CentreRefinement.{CentreRefines}
use Rattle.sms_world.specs.centre_runs_are_steps.Handing.{IsHandedUp}

-- whatever the frame is. It is one of the bag by its number, whoever sent it and however often it arrived, or CP-ACK or CP-ERROR
abbrev pub FrameLaw : Type 0
FrameLaw =
    (number : ℕ) (handset octets : List ℕ) (tag : Option Holder) (c : Core) (w : World) → IsSoundCore c → IsNumber handset → AreOctets octets
    → CentreRefines w (draft_of c) w
    → IsHandedUp handset number octets (tag_of tag) w → LeadsOn c.moment (Handed number) (Frame handset octets tag) c w

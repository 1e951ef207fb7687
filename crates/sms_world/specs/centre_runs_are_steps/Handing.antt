-- What the centre may be handed: a frame of the world with its octets, or one that carries nothing.
use Rattle.std.specs.Prelude.{◌≡◌, ◌⊎◌, ℕ, List}
use Rattle.sms_base.specs.Among.{Among}
use Rattle.sms_base.specs.declared.holder.Holder.{Holder}
use Rattle.sms_control.specs.ControlReading.{cp_at}
use Rattle.sms_world.specs.frames_pass_between_sides.Between.{IsCarriedUp}
use Rattle.sms_world.specs.frames_pass_between_sides.FramesUp.{IsBare}
use Rattle.sms_world_model.specs.World.{Carried as Carried_frame, Frame, World}

abbrev pub IsHandedUp : List ℕ → ℕ → List ℕ → Holder → World → Type 0
IsHandedUp handset number octets tag w =
    IsBare (cp_at octets)
    ⊎ ((u : Frame) × (Among (Carried_frame u) w.bag × (u.number ≡ number) × (u.handset ≡ handset) × (u.tag ≡ tag) × IsCarriedUp u octets))

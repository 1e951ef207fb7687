-- What the centre sends: for each frame the frame of the world that it is, and that its octets say so.
use Rattle.std.specs.Prelude.{ℕ, ◌+◌, List, [], ◌∷◌, Option, Some, None, length}
use Rattle.sms_base.specs.declared.carried.Carried.{Carried}
use Rattle.sms_control.specs.ControlReading.{cp_at}
use Rattle.sms_world.specs.frames_pass_between_sides.Between.{CarriesDown}
use Rattle.sms_world.specs.frames_pass_between_sides.FramesUp.{IsBare}
use Rattle.sms_centre_rows.specs.declared.waiting.handset_link.Sent.{Sent as SentRow}
use Rattle.sms_world_model.specs.World.{Sent}
use Rattle.sms_world.specs.headline.SeenFrames.{sent_down}

-- the bag with these frames, sent one after the other
abbrev pub stacked_down : List SentRow → List Sent → List Sent
stacked_down [] bag = bag
stacked_down (f ∷ fs) bag = stacked_down fs (sent_down f.handset (length bag + 1) f.frame.octets f.frame.carried ∷ bag)

-- what a frame carries is what its octets say: so the handset may read it
abbrev pub IsWholeDown : List ℕ → Option Carried → Type 0
IsWholeDown octets None = IsBare (cp_at octets)
IsWholeDown octets (Some c) = CarriesDown octets c

abbrev pub AreWholeDown : List SentRow → Type 0
AreWholeDown [] = Unit {0}
AreWholeDown (f ∷ fs) = IsWholeDown f.frame.octets f.frame.carried × AreWholeDown fs

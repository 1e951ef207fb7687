use Rattle.sms_world.proofs.frames_pass_between_sides.Passing.{goes_down, goes_up}
use Rattle.sms_world.proofs.frames_pass_between_sides.frames_pass_between_sides.Goals as goal

pub returns : goal.returns
returns c = record { up = goes_up; down = goes_down }

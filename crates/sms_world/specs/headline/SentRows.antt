-- What the octets of a frame say is what it is said to carry, so that the other side may read it.
use Rattle.std.specs.Prelude.{ℕ, List, Option}
use Rattle.sms_base.specs.declared.carried.Carried.{Carried}
use Rattle.sms_script.specs.declared.report.rows.Direction.{Direction}
use Rattle.sms_script.specs.declared.report.rows.Direction.TheVariants.{Up, Down}
use Rattle.sms_world.specs.centres_refine_the_world.FramesOut.{IsWholeDown}
use Rattle.sms_world.specs.frames_pass_between_sides.FramesUp.{IsWhole}

abbrev pub IsWholeBy : Direction → List ℕ → Option Carried → Type 0
IsWholeBy Up octets carried = IsWhole octets carried
IsWholeBy Down octets carried = IsWholeDown octets carried

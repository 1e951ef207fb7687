use Rattle.std.proofs.Common.{◌≡◌, ◌++◌, drop}
use Rattle.sms_intake.specs.PartBodies.{bodies_of}
use Rattle.sms_intake.proofs.part_bodies.bodies_of.Given as goal

-- those so far, and those of the rest
abbrev pub invariant-loop-part : goal.invariant-loop-part
invariant-loop-part l = l.bodies ++ bodies_of (drop l.part-index l.parts) ≡ bodies_of l.parts

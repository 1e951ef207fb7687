use Rattle.std.proofs.Common.{◌++◌, List, take}
use Rattle.sms_centre_rows.specs.declared.waiting.queued_part.QueuedPart.{QueuedPart}
use Rattle.sms_centre_rows.specs.waiting.References.{AreHeld}
use Rattle.sms_schedule.proofs.waiting.held.held_with.Given as goal

abbrev pub invariant-loop-queued : goal.invariant-loop-queued
invariant-loop-queued l = (others : List QueuedPart) → AreHeld l.initial.held others → AreHeld l.held (others ++ take l.queued-index l.waiting)

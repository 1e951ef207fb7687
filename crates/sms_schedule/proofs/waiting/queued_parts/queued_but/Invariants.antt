use Rattle.std.proofs.Common.{◌≡◌, ◌++◌, drop}
use Rattle.sms_centre_rows.specs.waiting.Waiting.{withdrawn}
use Rattle.sms_schedule.proofs.waiting.queued_parts.queued_but.Given as goal

abbrev pub invariant-loop-queued : goal.invariant-loop-queued
invariant-loop-queued l = l.all_queued.items ++ withdrawn l.id (drop l.queued-index l.waiting) ≡ withdrawn l.id l.waiting

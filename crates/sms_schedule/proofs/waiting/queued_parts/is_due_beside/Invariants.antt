use Rattle.std.proofs.Common.{◌≡◌, drop}
use Rattle.sms_centre_rows.specs.waiting.Waiting.{waits_beside}
use Rattle.sms_schedule.proofs.waiting.queued_parts.is_due_beside.Given as goal

abbrev pub invariant-loop-queued : goal.invariant-loop-queued
invariant-loop-queued l = waits_beside l.now l.chosen (drop l.queued-index l.waiting) ≡ waits_beside l.now l.chosen l.waiting

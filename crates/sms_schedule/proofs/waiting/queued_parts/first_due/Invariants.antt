use Rattle.std.proofs.Common.{◌≡◌, ◌-◌, ◌++◌, List, length, drop}
use Rattle.sms_centre_rows.specs.declared.waiting.queued_part.QueuedPart.{QueuedPart}
use Rattle.sms_centre_rows.specs.waiting.Waiting.{next}
use Rattle.sms_schedule.proofs.waiting.queued_parts.first_due.Given as goal

abbrev pub invariant-loop-i : goal.invariant-loop-i
invariant-loop-i l = (others : List QueuedPart) → l.initial.first ≡ next l.now others → l.first ≡ next l.now (drop (length l.waiting - l.i) l.waiting ++ others)

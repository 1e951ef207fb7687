use Rattle.std.proofs.Common.{◌≡◌, ◌-◌, None, length, drop}
use Rattle.sms_centre_rows.specs.waiting.Keys.{reference_key}
use Rattle.sms_centre_queue.specs.queue.Given.{newest}
use Rattle.sms_centre_queue.proofs.queue.given_references.newest.Given as goal

abbrev pub invariant-loop-i : goal.invariant-loop-i
invariant-loop-i l = newest reference_key l.key (drop (length l.rows - l.i) l.rows) ≡ None

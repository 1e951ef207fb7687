use Rattle.std.proofs.Common.{take}
use Rattle.sms_centre_queue.specs.queue.Given.{AllGivenBy}
use Rattle.sms_centre_queue.proofs.queue.earlier_references.latest_of.Given as goal

abbrev pub invariant-loop-row : goal.invariant-loop-row
invariant-loop-row l = AllGivenBy l.latest (take l.row-index l.rows)

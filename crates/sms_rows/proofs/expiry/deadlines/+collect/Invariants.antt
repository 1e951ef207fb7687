use Rattle.std.proofs.Common.{◌-◌, length}
use Rattle.sms_rows.proofs.expiry.deadlines.+collect.Given as goal

abbrev pub decreases-collect : goal.decreases-collect
decreases-collect l = length l.heap.now - l.place

use Rattle.std.proofs.Common.{◌≡◌, ◌-◌, None, length, drop}
use Rattle.sms_rows.specs.table.Table.{newest_of}
use Rattle.sms_rows.proofs.table.Table.find_after.Given as goal

abbrev pub invariant-loop-i : goal.invariant-loop-i
invariant-loop-i g l = newest_of g.T.Row.key l.key (drop (length l.changes - l.i) l.changes) ≡ None

use Rattle.std.proofs.Common.{◌≡◌, ◌++◌, drop}
use Rattle.sms_trace_files.specs.picture.Drawing.{lanes_drawn}
use Rattle.sms_trace_files.proofs.picture.drawing.put_lanes.Given as goal

abbrev pub invariant-loop-lane : goal.invariant-loop-lane
invariant-loop-lane l =
    l.out ++ lanes_drawn l.columns.table.items l.rows (drop l.lane-index l.lanes) ≡ l.fn.out ++ lanes_drawn l.columns.table.items l.rows l.lanes

use Rattle.std.proofs.Common.{◌≡◌, ◌++◌, drop}
use Rattle.sms_trace_files.specs.picture.Drawing.{names_drawn}
use Rattle.sms_trace_files.proofs.picture.drawing.put_names.Given as goal

abbrev pub invariant-loop-lane : goal.invariant-loop-lane
invariant-loop-lane l =
    l.out ++ names_drawn l.columns.table.items l.head (drop l.lane-index l.lanes) ≡ l.fn.out ++ names_drawn l.columns.table.items l.head l.lanes

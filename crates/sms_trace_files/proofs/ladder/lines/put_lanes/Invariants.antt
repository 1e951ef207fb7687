use Rattle.std.proofs.Common.{◌≡◌, ◌++◌}
use Rattle.sms_trace_files.specs.ladder.Lines.{lane_marks}
use Rattle.sms_trace_files.proofs.ladder.lines.put_lanes.Given as goal

abbrev pub invariant-loop-lane : goal.invariant-loop-lane
invariant-loop-lane l = l.out ≡ l.fn.out ++ lane_marks l.apart l.shape l.lane

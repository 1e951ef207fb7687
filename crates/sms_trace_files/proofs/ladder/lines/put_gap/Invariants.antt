use Rattle.std.proofs.Common.{◌≡◌, ◌++◌, ◌*◌}
use Rattle.sms_trace_files.specs.ladder.Lines.{gap_marks}
use Rattle.sms_trace_files.proofs.ladder.lines.put_gap.Given as goal

abbrev pub invariant-loop-place : goal.invariant-loop-place
invariant-loop-place l = l.out ≡ l.fn.out ++ gap_marks l.apart l.shape l.lane l.place

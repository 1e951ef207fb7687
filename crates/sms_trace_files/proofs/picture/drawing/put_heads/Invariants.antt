use Rattle.std.proofs.Common.{◌≡◌, ◌++◌}
use Rattle.sms_trace_files.specs.picture.Drawing.{heads_drawn}
use Rattle.sms_trace_files.proofs.picture.drawing.put_heads.Given as goal

abbrev pub invariant-loop-head : goal.invariant-loop-head
invariant-loop-head l = l.out ≡ l.fn.out ++ heads_drawn l.columns.table.items l.lanes l.head

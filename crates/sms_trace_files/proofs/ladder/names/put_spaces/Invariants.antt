use Rattle.std.proofs.Common.{◌≡◌, ◌++◌, replicate}
use Rattle.sms_trace_files.proofs.ladder.names.put_spaces.Given as goal

abbrev pub invariant-loop-place : goal.invariant-loop-place
invariant-loop-place l = l.out ≡ l.fn.out ++ replicate l._place 32

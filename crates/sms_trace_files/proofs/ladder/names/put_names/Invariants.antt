use Rattle.std.proofs.Common.{◌≡◌, ◌++◌, drop}
use Rattle.sms_trace_files.specs.ladder.Names.{names_text}
use Rattle.sms_trace_files.proofs.ladder.names.put_names.Given as goal

abbrev pub invariant-loop-lane : goal.invariant-loop-lane
invariant-loop-lane l =
    l.out ++ names_text l.columns.table.items l.apart l.gap (drop l.lane-index l.lanes) ≡ l.fn.out ++ names_text l.columns.table.items l.apart 0 l.lanes

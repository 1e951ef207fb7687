use Rattle.std.proofs.Common.{◌≡◌, drop}
use Rattle.sms_trace_files.specs.ladder.Names.{apart_for}
use Rattle.sms_trace_files.proofs.ladder.names.apart.Given as goal

abbrev pub invariant-loop-lane : goal.invariant-loop-lane
invariant-loop-lane l = apart_for l.apart (drop l.lane-index l.lanes) ≡ apart_for 20 l.lanes

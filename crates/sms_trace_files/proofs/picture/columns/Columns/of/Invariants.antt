use Rattle.std.proofs.Common.{◌≡◌, ◌≤◌}
use Rattle.sms_trace_files.specs.picture.Columns.{columns, drawn_before}
use Rattle.sms_trace_files.proofs.picture.columns.Columns.of.Given as goal

abbrev pub invariant-loop-lane : goal.invariant-loop-lane
invariant-loop-lane l = (l.table.items ≡ columns l.rows l.lane) × (l.count ≡ drawn_before l.rows l.lane) × (l.count ≤ l.lane)

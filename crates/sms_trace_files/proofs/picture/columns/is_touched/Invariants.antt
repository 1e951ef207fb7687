use Rattle.std.proofs.Common.{◌≡◌, drop}
use Rattle.sms_trace_files.specs.picture.Columns.{is_touched}
use Rattle.sms_trace_files.proofs.picture.columns.is_touched.Given as goal

abbrev pub invariant-loop-row : goal.invariant-loop-row
invariant-loop-row l = is_touched (drop l.row-index l.rows) l.lane ≡ is_touched l.rows l.lane

use Rattle.std.proofs.Common.{◌≡◌, drop}
use Rattle.sms_centre_spec.specs.CentreEvent.{after_reports}
use Rattle.sms_centre_recovery.proofs.starting.moments.after_reports.Given as goal

abbrev pub invariant-loop-row : goal.invariant-loop-row
invariant-loop-row l = after_reports l.moment (drop l.row-index l.rows) ≡ after_reports l.fn.start l.rows

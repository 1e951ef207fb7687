use Rattle.std.proofs.Common.{◌≡◌, drop}
use Rattle.sms_centre_spec.specs.CentreEvent.{after_references}
use Rattle.sms_centre_recovery.proofs.starting.moments.after_references.Given as goal

abbrev pub invariant-loop-row : goal.invariant-loop-row
invariant-loop-row l = after_references l.moment (drop l.row-index l.rows) ≡ after_references l.fn.start l.rows

use Rattle.std.proofs.Common.{◌≡◌, drop}
use Rattle.sms_centre_spec.specs.CentreEvent.{after_messages}
use Rattle.sms_centre_recovery.proofs.starting.moments.after_messages.Given as goal

abbrev pub invariant-loop-row : goal.invariant-loop-row
invariant-loop-row l = after_messages l.moment (drop l.row-index l.rows) ≡ after_messages l.fn.start l.rows

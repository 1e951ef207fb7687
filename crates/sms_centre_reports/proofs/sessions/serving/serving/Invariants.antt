use Rattle.std.proofs.Common.{◌≡◌, drop}
use Rattle.sms_centre_reports.specs.sessions.SessionReceipts.{fewer}
use Rattle.sms_centre_reports.proofs.sessions.Candidates.{serves_as}
use Rattle.sms_centre_reports.proofs.sessions.serving.serving.Given as goal

abbrev pub invariant-loop-seat : goal.invariant-loop-seat
invariant-loop-seat l = fewer l.best (serves_as l.account (drop l.seat-index l.seats)) ≡ serves_as l.account l.seats

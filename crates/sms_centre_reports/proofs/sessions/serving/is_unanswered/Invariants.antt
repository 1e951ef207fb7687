use Rattle.std.proofs.Common.{◌≡◌, drop}
use Rattle.sms_centre_rows.specs.reports.Receipts.{is_unanswered}
use Rattle.sms_centre_reports.proofs.sessions.serving.is_unanswered.Given as goal

abbrev pub invariant-loop-seat : goal.invariant-loop-seat
invariant-loop-seat l = is_unanswered l.id (drop l.seat-index l.seats) ≡ is_unanswered l.id l.seats

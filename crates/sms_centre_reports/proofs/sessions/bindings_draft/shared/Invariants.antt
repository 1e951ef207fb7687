use Rattle.std.proofs.Common.{◌≡◌, ◌++◌, drop}
use Rattle.sms_centre_reports.proofs.sessions.bindings_draft.shared.Given as goal

abbrev pub invariant-loop-seat : goal.invariant-loop-seat
invariant-loop-seat l = l.copies.items ++ drop l.seat-index l.seats ≡ l.seats

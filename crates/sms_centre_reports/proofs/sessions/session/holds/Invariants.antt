use Rattle.std.proofs.Common.{◌≡◌, drop}
use Rattle.sms_centre_rows.specs.messages.SplitReferences.{is_among}
use Rattle.sms_centre_reports.proofs.sessions.session.holds.Given as goal

abbrev pub invariant-loop-other : goal.invariant-loop-other
invariant-loop-other l = is_among l.id (drop l.other-index l.ids) ≡ is_among l.id l.ids

use Rattle.std.proofs.Common.{◌≡◌, ◌++◌, drop}
use Rattle.sms_centre_rows.specs.reports.Receipts.{without_id}
use Rattle.sms_centre_reports.proofs.sessions.session.others.Given as goal

abbrev pub invariant-loop-other : goal.invariant-loop-other
invariant-loop-other l = l.left.items ++ without_id l.id (drop l.other-index l.ids) ≡ without_id l.id l.ids

use Rattle.std.proofs.Common.{◌≡◌, drop, option_copied}
use Rattle.sms_rows.specs.table.Table.{latest}
use Rattle.sms_handset_rows.specs.outbox.Reports.{reported}
use Rattle.sms_handset_rows.proofs.outbox.reports.reported.Given as goal

abbrev pub invariant-loop-entry : goal.invariant-loop-entry
invariant-loop-entry l = latest (option_copied l.newest) (reported l.report (drop l.entry-index l.outbox)) ≡ reported l.report l.outbox

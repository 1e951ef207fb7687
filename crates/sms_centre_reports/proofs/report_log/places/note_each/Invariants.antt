use Rattle.std.proofs.Common.{◌≡◌, [], true, take}
use Rattle.sms_centre_reports.specs.report_log.Places.{AreFound}
use Rattle.sms_centre_reports.proofs.report_log.places.note_each.Given as goal

abbrev pub invariant-loop-report : goal.invariant-loop-report
invariant-loop-report l = l.initial.places.entries ≡ [] → l.is_once ≡ true → AreFound (take l.report-index l.reports) l.places

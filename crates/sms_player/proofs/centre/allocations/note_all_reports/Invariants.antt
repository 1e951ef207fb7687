use Rattle.std.proofs.Common.{◌≡◌, ◌++◌, drop}
use Rattle.sms_player.specs.centre.Allocations.{each, report_of}
use Rattle.sms_player.proofs.centre.allocations.note_all_reports.Given as goal

abbrev pub invariant-loop-change : goal.invariant-loop-change
invariant-loop-change l = l.given ++ each (report_of l.moment l.messages.rows) (drop l.change-index l.changes) ≡ l.fn.given ++ each (report_of l.moment l.messages.rows) l.changes

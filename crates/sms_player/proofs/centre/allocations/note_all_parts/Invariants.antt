use Rattle.std.proofs.Common.{◌≡◌, ◌++◌, drop}
use Rattle.sms_player.specs.centre.Allocations.{each, part_of}
use Rattle.sms_player.proofs.centre.allocations.note_all_parts.Given as goal

abbrev pub invariant-loop-change : goal.invariant-loop-change
invariant-loop-change l = l.given ++ each (part_of l.moment l.messages.rows) (drop l.change-index l.changes) ≡ l.fn.given ++ each (part_of l.moment l.messages.rows) l.changes

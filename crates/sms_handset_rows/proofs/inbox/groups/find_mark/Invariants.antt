use Rattle.std.proofs.Common.{◌≡◌, drop}
use Rattle.sms_handset_rows.specs.inbox.Groups.{mark_of}
use Rattle.sms_handset_rows.proofs.inbox.groups.find_mark.Given as goal

abbrev pub invariant-loop-mark : goal.invariant-loop-mark
invariant-loop-mark l = mark_of l.group (drop l.mark-index l.marks) ≡ mark_of l.group l.marks

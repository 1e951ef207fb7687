use Rattle.std.proofs.Common.{length}
use Rattle.sms_handset_rows.proofs.inbox.sound_inbox.+are_marks.Given as goal

abbrev pub decreases-are_marks : goal.decreases-are_marks
decreases-are_marks l = length l.marks.now

use Rattle.std.proofs.Common.{length}
use Rattle.sms_handset_rows.proofs.inbox.sound_inbox.+parts_differ.Given as goal

abbrev pub decreases-parts_differ : goal.decreases-parts_differ
decreases-parts_differ l = length l.entries.now

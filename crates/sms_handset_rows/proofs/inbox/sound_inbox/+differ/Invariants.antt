use Rattle.std.proofs.Common.{length}
use Rattle.sms_handset_rows.proofs.inbox.sound_inbox.+differ.Given as goal

abbrev pub decreases-differ : goal.decreases-differ
decreases-differ l = length l.numbers.now

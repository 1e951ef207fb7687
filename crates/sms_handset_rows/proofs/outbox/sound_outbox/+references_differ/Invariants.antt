use Rattle.std.proofs.Common.{length}
use Rattle.sms_handset_rows.proofs.outbox.sound_outbox.+references_differ.Given as goal

abbrev pub decreases-references_differ : goal.decreases-references_differ
decreases-references_differ l = length l.outbox.now

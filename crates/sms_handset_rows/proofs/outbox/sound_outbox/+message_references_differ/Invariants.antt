use Rattle.std.proofs.Common.{length}
use Rattle.sms_handset_rows.proofs.outbox.sound_outbox.+message_references_differ.Given as goal

abbrev pub decreases-message_references_differ : goal.decreases-message_references_differ
decreases-message_references_differ l = length l.outbox.now

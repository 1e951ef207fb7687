use Rattle.std.proofs.Common.{◌≡◌, drop}
use Rattle.sms_handset_rows.specs.declared.outbox.out_entry.OutEntry.{OutEntry}
use Rattle.sms_handset_rows.specs.inbox.InboxTest.{each_passes}
use Rattle.sms_handset_rows.specs.outbox.OutboxTest.{is_out_entry}
use Rattle.sms_handset_rows.proofs.outbox.sound_outbox.are_out_entries.Given as goal

abbrev pub invariant-loop-entry : goal.invariant-loop-entry
invariant-loop-entry l = each_passes (λ (o : OutEntry). is_out_entry l.next l.entries o) (drop l.entry-index l.outbox) ≡ each_passes (λ (o : OutEntry). is_out_entry l.next l.entries o) l.outbox

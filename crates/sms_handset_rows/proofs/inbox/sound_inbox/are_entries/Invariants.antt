use Rattle.std.proofs.Common.{◌≡◌, drop}
use Rattle.sms_handset_rows.specs.declared.inbox.entry.Entry.{Entry}
use Rattle.sms_handset_rows.specs.inbox.InboxTest.{each_passes, is_entry}
use Rattle.sms_handset_rows.proofs.inbox.sound_inbox.are_entries.Given as goal

abbrev pub invariant-loop-entry : goal.invariant-loop-entry
invariant-loop-entry l = each_passes (λ (e : Entry). is_entry l.next e) (drop l.entry-index l.entries) ≡ each_passes (λ (e : Entry). is_entry l.next e) l.entries

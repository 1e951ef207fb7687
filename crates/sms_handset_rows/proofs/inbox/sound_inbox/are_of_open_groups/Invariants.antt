use Rattle.std.proofs.Common.{◌≡◌, drop}
use Rattle.sms_handset_rows.specs.declared.inbox.entry.Entry.{Entry}
use Rattle.sms_handset_rows.specs.inbox.InboxTest.{each_passes, is_of_open_group}
use Rattle.sms_handset_rows.proofs.inbox.sound_inbox.are_of_open_groups.Given as goal

abbrev pub invariant-loop-entry : goal.invariant-loop-entry
invariant-loop-entry l = each_passes (λ (e : Entry). is_of_open_group l.entries l.marks e.number e.message) (drop l.entry-index l.entries) ≡ each_passes (λ (e : Entry). is_of_open_group l.entries l.marks e.number e.message) l.entries

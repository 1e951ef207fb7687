-- The keys of the inbox's lists: by number the entries and the discarded groups, by reference what was accepted last.
use Rattle.std.specs.Prelude.{ℕ}
use Rattle.sms_handset_rows.specs.declared.inbox.entry.Entry.{Entry}
use Rattle.sms_handset_rows.specs.declared.inbox.last_accepted.LastAccepted.{LastAccepted}
use Rattle.sms_handset_rows.specs.declared.inbox.discarded_group.DiscardedGroup.{DiscardedGroup}

abbrev pub entry_key : Entry → ℕ
entry_key e = e.number

abbrev pub last_key : LastAccepted → ℕ
last_key l = l.reference

abbrev pub mark_key : DiscardedGroup → ℕ
mark_key m = m.number

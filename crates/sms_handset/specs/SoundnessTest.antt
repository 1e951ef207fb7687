-- The test whether rows are sound, over lists.
use Rattle.std.specs.Prelude.{◌&&◌, nat_le, length, Bool, nat_lt}
use Rattle.sms_rows.specs.table.Table.{Rises}
use Rattle.sms_handset_rows.specs.inbox.Keys.{entry_key, last_key, mark_key}
use Rattle.sms_handset_rows.specs.inbox.InboxTest.{each_passes, is_entry, is_of_open_group, is_last, differ, are_marks}
use Rattle.sms_handset_rows.specs.declared.inbox.entry.Entry.{Entry}
use Rattle.sms_handset_rows.specs.declared.inbox.last_accepted.LastAccepted.{LastAccepted}
use Rattle.sms_handset_rows.specs.outbox.Keys.{out_key}
use Rattle.sms_handset_rows.specs.outbox.OutboxTest.{is_out_entry}
use Rattle.sms_handset_rows.specs.declared.outbox.out_entry.OutEntry.{OutEntry}
use Rattle.sms_handset_rows.specs.outbox.References.{held_by_entries, held_message_references}
use Rattle.sms_handset_draft.specs.declared.rows.Rows.{Rows}

-- the keys of each list rise
pub record KeysRise (rows : Rows) : Type 0 where
  pub entries : Rises entry_key rows.entries
  pub last : Rises last_key rows.last
  pub outbox : Rises out_key rows.outbox
  pub marks : Rises mark_key rows.marks

-- few enough to be looked at one with another
abbrev pub are_few : Rows → Bool
are_few rows = nat_le (length rows.entries) 255 && (nat_le (length rows.outbox) 20 && nat_le (length rows.marks) 64)

abbrev pub inbox_passes : Rows → Bool
inbox_passes rows =
    nat_lt 0 rows.counters.entry && (each_passes (λ (e : Entry). is_entry rows.counters.entry e) rows.entries
    && (each_passes (λ (e : Entry). is_of_open_group rows.entries rows.marks e.number e.message) rows.entries
    && each_passes (λ (l : LastAccepted). is_last l) rows.last))

abbrev pub outbox_passes : Rows → Bool
outbox_passes rows =
    each_passes (λ (o : OutEntry). is_out_entry rows.counters.entry rows.entries o) rows.outbox
    && (differ (held_message_references rows.outbox) && (differ (held_by_entries rows.outbox) && are_marks rows.counters.entry rows.entries rows.marks))

-- A handset with sound rows, between two events.
use Rattle.std.specs.Prelude.{◌≡◌, ℕ, List, Some, Option, None, ◌≤◌, length, true}
use Rattle.sms_base.specs.declared.holder.Holder.{Holder}
use Rattle.sms_base.specs.declared.holder.Holder.TheVariants.{Part, Report, Entry, Memory}
use Rattle.sms_base.specs.declared.carried.Carried.{Carried}
use Rattle.sms_rows.specs.table.Table.{row_at}
use Rattle.sms_handset_rows.specs.declared.outbox.out_entry.EntryState.TheVariants.{Sending}
use Rattle.sms_handset_rows.specs.declared.outbox.out_entry.OutEntry.{OutEntry}
use Rattle.sms_handset_rows.specs.outbox.Keys.{out_key}
use Rattle.sms_handset_draft.specs.Draft.{Core}
use Rattle.sms_handset_draft.specs.MemoryAvailable.{most_notices}
use Rattle.sms_handset.specs.SoundRows.{IsSound}

-- the entry of the outbox with that number is Sending, under that reference
abbrev pub IsSendingEntry : ℕ → ℕ → List OutEntry → Type 0
IsSendingEntry reference n outbox = (o : OutEntry) × ((row_at out_key n outbox ≡ Some o) × ((o.state ≡ Sending) × (o.reference ≡ reference)))

-- what is sent for an entry of the outbox finds it Sending
abbrev pub IsSentFor : ℕ → Holder → List OutEntry → Type 0
IsSentFor reference (Part id number) outbox = Unit {0}
IsSentFor reference (Report id) outbox = Unit {0}
IsSentFor reference (Entry n) outbox = IsSendingEntry reference n outbox
IsSentFor reference (Memory n) outbox = Unit {0}

abbrev pub IsUnderWay : Option Carried → List OutEntry → Type 0
IsUnderWay None outbox = Unit {0}
IsUnderWay (Some carried) outbox = IsSentFor carried.reference carried.tag outbox

pub record IsSoundCore (c : Core) : Type 0 where
  pub rows : IsSound c.rows
  -- until the first event after a recovery that is not refused, nothing is under way
  pub recovered : c.is_recovered ≡ true → c.under_way ≡ None
  -- so an answer settles no entry that is finished, whose references others may hold by now
  pub under_way : IsUnderWay c.under_way c.rows.outbox
  -- so that references are left for the outbox
  pub few_notices : length c.notices ≤ most_notices

-- Rows from which a handset can recover.
use Rattle.std.specs.Prelude.{◌<◌, ◌≤◌, length}
use Rattle.std.specs.List.{AllByRecursion}
use Rattle.sms_base.specs.Address.{IsAddress}
use Rattle.sms_rows.specs.table.Table.{Rises}
use Rattle.sms_handset_rows.specs.inbox.SoundInbox.{AreEntries, Differ, AreOpenGroups, IsLast, AreMarks}
use Rattle.sms_handset_rows.specs.inbox.Keys.{entry_key, last_key, mark_key}
use Rattle.sms_handset_rows.specs.outbox.SoundOutbox.{AreOutEntries}
use Rattle.sms_handset_rows.specs.outbox.References.{held_message_references, held_by_entries}
use Rattle.sms_handset_rows.specs.outbox.Keys.{out_key}
use Rattle.sms_handset_draft.specs.declared.setup.Setup.{Setup}
use Rattle.sms_handset_draft.specs.declared.rows.Rows.{Rows}
use Rattle.sms_handset.specs.declared.recover_error.RecoverError.{RecoverError}
use Rattle.sms_handset.specs.declared.recover_error.RecoverError.TheVariants.{BadRows, NoMemory}

-- ---- the setup, which is handed in

pub record IsSetup (setup : Setup) : Type 0 where
  pub slots : 0 < setup.slots
  pub slots_fit : setup.slots ≤ 255
  pub number : IsAddress setup.number
  pub centre : IsAddress setup.centre

pub record IsSound (rows : Rows) : Type 0 where
  pub setup : IsSetup rows.setup
  pub entry_keys : Rises entry_key rows.entries
  pub last_keys : Rises last_key rows.last
  pub out_keys : Rises out_key rows.outbox
  pub mark_keys : Rises mark_key rows.marks
  pub counted : 0 < rows.counters.entry
  -- as each takes a slot
  pub few_stored : length rows.entries ≤ 255
  pub entries : AreEntries rows.counters.entry rows.entries
  pub groups : AreOpenGroups rows.entries rows.marks
  pub last : AllByRecursion IsLast rows.last
  pub outbox : AreOutEntries rows.counters.entry rows.entries rows.outbox
  pub few_entries : length rows.outbox ≤ 20
  -- what unfinished entries hold differs
  pub message_references : Differ (held_message_references rows.outbox)
  pub references : Differ (held_by_entries rows.outbox)
  pub marks : AreMarks rows.counters.entry rows.entries rows.marks
  pub few_marks : length rows.marks ≤ 64

-- ---- why there is no handset: the rows are not sound; memory is asked for only where they are

abbrev pub RefusesRows : RecoverError → Rows → Type 0
RefusesRows BadRows rows = ¬ IsSound rows
RefusesRows NoMemory rows = IsSound rows

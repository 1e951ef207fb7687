-- What holds of the rows of a handset between its events.
use Rattle.std.specs.Prelude.{◌≡◌}
use Rattle.sms_base.specs.Address.{IsAddress}
use Rattle.sms_handset_rows.specs.inbox.Slots.{slots_taken}
use Rattle.sms_handset_rows.specs.inbox.OpenIndex.{Indexes}
use Rattle.sms_handset_draft.specs.declared.stored.Stored.{Stored}
use Rattle.sms_handset_draft.specs.Draft.{rows_of}
use Rattle.sms_handset_draft.specs.Regrouping.{Numbered}

pub record IsConsistent (s : Stored) : Type 0 where
  pub centre : IsAddress s.setup.centre
  -- the index has the open groups of the entries
  pub index : Indexes s.groups s.entries.rows
  pub numbers : Numbered (rows_of s)
  -- the slots are counted
  pub slots : s.taken ≡ slots_taken s.entries.rows

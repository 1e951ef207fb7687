-- The rows that a handset begins with are sound, and sound rows are so with any setup.
use Rattle.std.proofs.Common.{arith}
use Rattle.sms_handset_draft.specs.declared.rows.Rows.{Rows}
use Rattle.sms_handset_draft.specs.declared.setup.Setup.{Setup}
use Rattle.sms_handset_draft.specs.FirstRows.{first_rows}
use Rattle.sms_handset.specs.SoundRows.{IsSetup, IsSound}

pub first_sound : (setup : Setup) → IsSetup setup → IsSound (first_rows setup)
first_sound setup t = record {
  setup = t;
  entry_keys = tt;
  last_keys = tt;
  out_keys = tt;
  mark_keys = tt;
  counted = omega arith;
  few_stored = omega arith;
  entries = tt;
  groups = tt;
  last = tt;
  outbox = tt;
  few_entries = omega arith;
  message_references = tt;
  references = tt;
  marks = tt;
  few_marks = omega arith;
}

pub other_setup : (rows : Rows) (setup : Setup) → IsSound rows → IsSetup setup → IsSound (record rows { setup = setup })
other_setup rows setup s t = record {
  setup = t;
  entry_keys = s.entry_keys;
  last_keys = s.last_keys;
  out_keys = s.out_keys;
  mark_keys = s.mark_keys;
  counted = s.counted;
  few_stored = s.few_stored;
  entries = s.entries;
  groups = s.groups;
  last = s.last;
  outbox = s.outbox;
  few_entries = s.few_entries;
  message_references = s.message_references;
  references = s.references;
  marks = s.marks;
  few_marks = s.few_marks;
}

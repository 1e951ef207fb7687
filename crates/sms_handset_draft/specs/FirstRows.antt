-- The first rows of a new store.
use Rattle.std.specs.Prelude.{[], false}
use Rattle.sms_handset_draft.specs.declared.setup.Setup.{Setup}
use Rattle.sms_handset_draft.specs.declared.rows.Rows.{Rows}

abbrev pub first_rows : Setup → Rows
first_rows setup = record {
  entries = [];
  last = [];
  outbox = [];
  marks = [];
  counters = record { entry = 1; message_reference = 0; reference = 0; concat_reference = 0; notice = 0; is_memory_full = false };
  setup = setup;
}

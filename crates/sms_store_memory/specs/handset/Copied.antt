-- The changes of an event, copied.
use Rattle.sms_handset_draft.specs.Draft.{Changes}
use Rattle.sms_store_memory.specs.declared.handset.changes.Copies.{Copies}

abbrev pub copied : Copies → Changes
copied c = record {
  entries = c.entries;
  last = c.last;
  outbox = c.outbox;
  marks = c.marks;
  counters = c.counters;
}

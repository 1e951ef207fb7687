-- The keys of the rows of handsets, of references and of what waits.
use Rattle.std.specs.Prelude.{ℕ}
use Rattle.sms_rows.specs.table.Keys.{pair_key}
use Rattle.sms_centre_rows.specs.declared.waiting.handset.HandsetRow.{HandsetRow}
use Rattle.sms_centre_rows.specs.declared.waiting.queued_part.QueuedPart.{QueuedPart}
use Rattle.sms_centre_rows.specs.declared.waiting.reference.ReferenceRow.{ReferenceRow}

-- handsets are in the order in which they were mentioned first
abbrev pub handset_key : HandsetRow → ℕ
handset_key h = h.place

-- a reference is below 256
abbrev pub reference_key : ReferenceRow → ℕ
reference_key r = pair_key r.place r.reference

-- a part's number is below 256, and a status report's is 0
abbrev pub queued_key : QueuedPart → ℕ
queued_key l = pair_key l.id l.number

-- What waits for a handset, on which a centre can start: each holds a reference that was given there, and no two hold the same.
use Rattle.std.specs.Prelude.{◌≡◌, ℕ, ◌<◌, List, Option, Some, None}
use Rattle.sms_base.specs.Among.{Among}
use Rattle.sms_rows.specs.table.Table.{Rises}
use Rattle.sms_centre_rows.specs.declared.waiting.handset.HandsetRow.{HandsetRow}
use Rattle.sms_centre_rows.specs.declared.waiting.queued_part.QueuedPart.{QueuedPart}
use Rattle.sms_centre_rows.specs.declared.waiting.reference.ReferenceRow.{ReferenceRow}
use Rattle.sms_centre_rows.specs.waiting.Keys.{queued_key}
use Rattle.sms_centre_rows.specs.waiting.SoundAllocations.{reference_at}

-- the reference was given at the handset of that row
abbrev pub WasGiven : Option HandsetRow → List ReferenceRow → ℕ → Type 0
WasGiven None references reference = ⊥
WasGiven (Some h) references reference = (r : ReferenceRow) × (reference_at h.place reference references ≡ Some r)

pub record SoundWaiting (row : Option HandsetRow) (references : List ReferenceRow) (waiting : List QueuedPart) : Type 0 where
  pub keys : Rises queued_key waiting
  pub small : (l : QueuedPart) → Among l waiting → l.reference < 256
  pub given : (l : QueuedPart) → Among l waiting → WasGiven row references l.reference
  pub apart : (l k : QueuedPart) → Among l waiting → Among k waiting → l.reference ≡ k.reference → queued_key l ≡ queued_key k

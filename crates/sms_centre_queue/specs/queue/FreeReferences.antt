-- How many of a handset's 256 references may be given (3GPP TS 24.011 8.2.3).
use Rattle.std.specs.Prelude.{ℕ, zero, suc, ◌+◌, List, Bool, if◌then◌else◌}
use Rattle.sms_centre_rows.specs.declared.waiting.handset.HandsetRow.{HandsetRow}
use Rattle.sms_centre_rows.specs.declared.waiting.queued_part.QueuedPart.{QueuedPart}
use Rattle.sms_centre_rows.specs.declared.waiting.reference.ReferenceRow.{ReferenceRow}
use Rattle.sms_centre_rows.specs.waiting.References.{is_free}

-- how many of the numbers below that one pass
unfoldable pub passing_below : (ℕ → Bool) → ℕ → ℕ
passing_below passes zero = 0
passing_below passes (suc n) = if passes n then 1 + passing_below passes n else passing_below passes n

abbrev pub free_references : HandsetRow → List QueuedPart → List ReferenceRow → ℕ → ℕ
free_references h waiting references moment = passing_below (is_free h waiting references moment) 256

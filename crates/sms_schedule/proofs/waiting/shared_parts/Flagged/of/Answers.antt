use Rattle.std.proofs.Common.{List, [], subst}
use Rattle.sms_centre_rows.specs.waiting.References.{AreHeld}
use Rattle.sms_centre_rows.specs.declared.waiting.queued_part.QueuedPart.{QueuedPart}
use Rattle.sms_schedule.proofs.waiting.shared_parts.Flagged.of.Goals as goal

pub invariant_of-result : goal.invariant_of-result
invariant_of-result c = subst (λ (ls : List QueuedPart). AreHeld c.held_with-held.result ls) c.as_slice.ensures.rows (c.held_with-held.ensures [] c.none_held.ensures)

use Rattle.std.proofs.Common.{List, Option, ap, sym, ◌∙◌}
use Rattle.sms_centre_rows.specs.declared.waiting.handset.HandsetRow.{HandsetRow}
use Rattle.sms_centre_rows.specs.declared.waiting.queued_part.QueuedPart.{QueuedPart}
use Rattle.sms_centre_rows.specs.waiting.References.{next_reference, or_new_handset, place_after}
use Rattle.sms_centre_rows.proofs.waiting.ReferencesRepresented.{next_represented}
use Rattle.sms_centre_rows.proofs.waiting.laws.a_queue_knows_the_next_reference.Goals as goal

pub returns : goal.returns
returns c = λ number hs rs waiting links s now sound represents.
    ap (λ (o : Option HandsetRow). next_reference (or_new_handset number (place_after 1 hs) o) waiting rs now) (sym represents.row)
    ∙ next_represented number hs rs s.given waiting s.row now sound (sym represents.row) represents.given
    ∙ ap (λ (ls : List QueuedPart). next_reference (or_new_handset number (place_after 1 hs) s.row) ls s.given now) (sym represents.all_queued)

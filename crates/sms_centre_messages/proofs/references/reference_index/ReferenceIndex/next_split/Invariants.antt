use Rattle.std.proofs.Common.{◌≡◌, ◌-◌, ◌++◌, List}
use Rattle.sms_centre_rows.specs.declared.messages.bar.BarRow.{BarRow}
use Rattle.sms_centre_rows.specs.declared.messages.message.MessageRow.{MessageRow}
use Rattle.sms_centre_rows.specs.declared.messages.part.PartRow.{PartRow}
use Rattle.sms_centre_rows.specs.messages.SplitReferences.{first_free_split, held_references, next_split, own_references}
use Rattle.sms_centre_messages.specs.references.ReferenceIndex.{Represents}
use Rattle.sms_centre_messages.proofs.references.reference_index.ReferenceIndex.next_split.Given as goal

abbrev pub invariant-loop-turn : goal.invariant-loop-turn
invariant-loop-turn l = (bs : List BarRow) (ms : List MessageRow) (ps : List PartRow) → Represents l.self bs ms ps
    → first_free_split (l.turns - l._turn) l.reference (held_references l.source l.handset bs ms ++ own_references l.source l.handset bs ms ps) ≡ next_split l.source l.handset bs ms ps

use Rattle.std.proofs.Common.{sym, subst}
use Rattle.sms_centre_rows.specs.declared.messages.part.PartRow.{PartRow}
use Rattle.sms_centre_rows.specs.messages.Messages.{part_key, part_reaching}
use Rattle.sms_centre_rows.specs.declared.waiting.revision.Revision.{Revision}
use Rattle.sms_centre_rows.specs.waiting.Revisions.{revised}
use Rattle.sms_centre_messages.specs.references.ReferenceIndex.{Represents}
use Rattle.sms_centre_messages.specs.references.Moves.{IsPartMove}
use Rattle.sms_centre_messages.proofs.references.Adopted.{holds_amended}
use Rattle.sms_centre_messages.proofs.references.reference_index.ReferenceIndex.apply_part.Goals as goal

pub returns-in-Put-clause-holds : goal.returns-in-Put-clause-holds
returns-in-Put-clause-holds c = λ bs base ms ps is h rises move.
    subst (λ (r : Revision PartRow). Represents c.put_part.new.self bs ms (revised part_key part_reaching r ps)) (sym c.in-Put.is)
    (c.put_part.ensures.holds bs base ms ps is h rises (subst (λ (r : Revision PartRow). IsPartMove c.args.messages.now r ms ps) c.in-Put.is move))

pub returns-in-Amend-clause-holds : goal.returns-in-Amend-clause-holds
returns-in-Amend-clause-holds c = λ bs base ms ps is h rises move.
    subst (λ (r : Revision PartRow). Represents c.args.self.now bs ms (revised part_key part_reaching r ps)) (sym c.in-Amend.is)
    (holds_amended c.args.self.now c.in-Amend.key c.in-Amend.progress bs ms ps h)

pub returns-in-Remove-clause-holds : goal.returns-in-Remove-clause-holds
returns-in-Remove-clause-holds c = λ bs base ms ps is h rises move. elim (subst (λ (r : Revision PartRow). IsPartMove c.args.messages.now r ms ps) c.in-Remove.is move) [ ]

use Rattle.std.proofs.Common.{sym, ◌∙◌}
use Rattle.sms_centre_rows.specs.messages.SplitReferences.{held_references, own_references}
use Rattle.sms_centre_messages.proofs.references.Answering.{first_among, second_among}
use Rattle.sms_centre_messages.proofs.references.reference_index.ReferenceIndex.is_barred.Goals as goal

pub returns-then-is_held : goal.returns-then-is_held
returns-then-is_held c = λ bs ms ps h.
    first_among c.args.reference (held_references c.args.source.now c.args.handset.now bs ms) (own_references c.args.source.now c.args.handset.now bs ms ps) (sym (c.is_held.ensures bs ms ps h) ∙ c.if-is_held.true)

pub returns : goal.returns
returns c = λ bs ms ps h.
    c.is_own.ensures bs ms ps h
    ∙ second_among c.args.reference (held_references c.args.source.now c.args.handset.now bs ms) (own_references c.args.source.now c.args.handset.now bs ms ps) (sym (c.is_held.ensures bs ms ps h) ∙ c.if-is_held.false)

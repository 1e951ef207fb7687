use Rattle.std.proofs.Common.{Option, Some, sym, ap, subst}
use Rattle.sms_base.specs.declared.final_state.FinalState.{FinalState}
use Rattle.sms_rows.specs.table.Table.{put}
use Rattle.sms_centre_rows.specs.declared.messages.message.MessageRow.{MessageRow}
use Rattle.sms_centre_rows.specs.messages.Messages.{message_key}
use Rattle.sms_centre_messages.specs.references.Moves.{IsMoveTo}
use Rattle.sms_centre_messages.specs.references.ReferenceIndex.{Represents, still}
use Rattle.sms_centre_messages.proofs.references.reference_index.ReferenceIndex.put.Goals as goal

pub returns-in-Some-clause-holds : goal.returns-in-Some-clause-holds
returns-in-Some-clause-holds c = λ bs ms ps h rises move.
    let to : IsMoveTo (Some c.in-Some.state) c.args.row.now ms ps = subst (λ (o : Option FinalState). IsMoveTo o c.args.row.now ms ps) c.in-Some.is move in
    subst (λ (r : MessageRow). Represents c.end.new.self bs (put message_key r ms) ps) (sym to.1.1.1.1)
    (c.end.ensures.holds bs ms ps to.0 to.1.0 h rises to.1.1.0 to.1.1.1.0 (ap still to.1.1.1.1))

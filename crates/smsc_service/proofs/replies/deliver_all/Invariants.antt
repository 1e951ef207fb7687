use Rattle.std.proofs.Common.{◌≡◌, ◌++◌, drop}
use Rattle.sms_centre_spec.specs.Draft.{Core}
use Rattle.sms_centre_rows.specs.messages.Messages.{message_key}
use Rattle.sms_centre.specs.state.CentreState.{Represents}
use Rattle.sms_rows.specs.table.Table.{all_applied}
use Rattle.smsc_service.specs.Replies.{receipt_outs}
use Rattle.smsc_service.proofs.replies.deliver_all.Given as goal

abbrev pub invariant-loop-delivery : goal.invariant-loop-delivery
invariant-loop-delivery l =
    (c : Core) → Represents c l.centre
    → l.outs.items ++ receipt_outs (all_applied message_key l.planned.plan.changes.messages c.rows.messages) (drop l.delivery-index l.deliveries)
    ≡ l.initial.outs.items ++ receipt_outs (all_applied message_key l.planned.plan.changes.messages c.rows.messages) l.deliveries

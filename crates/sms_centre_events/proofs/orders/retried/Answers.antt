use Rattle.sms_centre_spec.specs.Draft.{in_store}
use Rattle.sms_centre_spec.specs.Orders.{message_due}
use Rattle.sms_centre_events.proofs.orders.retried.Goals as goal

pub returns : goal.returns
returns c = λ d represents there. c.answer.ensures (in_store (message_due c.args.message.now d.store) d) (c.in_ok-message_due.ensures d represents there)

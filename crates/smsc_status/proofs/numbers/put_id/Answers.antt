use Rattle.sms_base.proofs.MessageIds.{one_text, text_writes}
use Rattle.sms_base.specs.MessageId.{id_text}
use Rattle.smsc_status.proofs.numbers.put_id.Goals as goal

pub returns : goal.returns
returns c = rw (one_text c.digits-digits.result (id_text c.args.id) c.args.id c.digits-digits.ensures (text_writes c.args.id c.number-range.ensures.range)) at c.append.ensures.ok

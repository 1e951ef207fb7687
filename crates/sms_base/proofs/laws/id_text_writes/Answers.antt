use Rattle.sms_base.proofs.MessageIds.{text_writes}
use Rattle.sms_base.proofs.laws.id_text_writes.Goals as goal

pub returns : goal.returns
returns c = text_writes

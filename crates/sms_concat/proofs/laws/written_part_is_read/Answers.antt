use Rattle.sms_concat.proofs.FieldLaws.{part_again}
use Rattle.sms_concat.proofs.laws.written_part_is_read.Goals as goal

pub returns : goal.returns
returns c = part_again

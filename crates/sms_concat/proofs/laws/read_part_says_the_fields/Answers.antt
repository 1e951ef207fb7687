use Rattle.sms_concat.proofs.FieldLaws.{read_says}
use Rattle.sms_concat.proofs.laws.read_part_says_the_fields.Goals as goal

pub returns : goal.returns
returns c = read_says

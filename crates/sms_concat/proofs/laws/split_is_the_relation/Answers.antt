use Rattle.sms_concat.proofs.Uniqueness.{split_is}
use Rattle.sms_concat.proofs.laws.split_is_the_relation.Goals as goal

pub returns : goal.returns
returns c = split_is

use Rattle.sms_concat.proofs.Joined.{split_joins}
use Rattle.sms_concat.proofs.Uniqueness.{split_is}
use Rattle.sms_concat.proofs.laws.split_parts_join.Goals as goal

pub returns : goal.returns
returns c = λ content reference parts e. split_joins content reference parts ((split_is content reference parts).0 e).0

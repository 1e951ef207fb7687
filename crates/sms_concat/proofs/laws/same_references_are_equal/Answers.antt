use Rattle.sms_concat.proofs.References.{one_is_same}
use Rattle.sms_concat.proofs.laws.same_references_are_equal.Goals as goal

pub returns : goal.returns
returns c = one_is_same

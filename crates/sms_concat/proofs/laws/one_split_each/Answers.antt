use Rattle.sms_concat.proofs.Uniqueness.{there_is_split, one_split}
use Rattle.sms_concat.proofs.laws.one_split_each.Goals as goal

pub returns-clause-there : goal.returns-clause-there
returns-clause-there c = there_is_split

pub returns-clause-only : goal.returns-clause-only
returns-clause-only c = one_split

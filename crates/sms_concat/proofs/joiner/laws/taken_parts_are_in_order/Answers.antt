use Rattle.sms_concat.proofs.joiner.Stepwise.{none_in_order, taken_more}
use Rattle.sms_concat.proofs.joiner.laws.taken_parts_are_in_order.Goals as goal

pub returns-clause-none : goal.returns-clause-none
returns-clause-none c = none_in_order

pub returns-clause-more : goal.returns-clause-more
returns-clause-more c = taken_more

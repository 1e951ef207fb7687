use Rattle.sms_concat.proofs.Joined.{split_joins}
use Rattle.sms_concat.proofs.joiner.Stepwise.{stepwise_is_join}
use Rattle.sms_concat.proofs.Uniqueness.{split_is}
use Rattle.sms_concat.proofs.joiner.laws.steps_join_alike.Goals as goal

pub returns-clause-whole : goal.returns-clause-whole
returns-clause-whole c = stepwise_is_join

pub returns-clause-split : goal.returns-clause-split
returns-clause-split c = λ content reference parts came e s. stepwise_is_join parts came content (split_joins content reference parts ((split_is content reference parts).0 e).0) s

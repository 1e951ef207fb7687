use Rattle.sms_concat.proofs.joiner.Stepwise.{full_is_all, full_joins, joined_is_full}
use Rattle.sms_concat.proofs.joiner.laws.full_is_each_number.Goals as goal

pub returns-clause-each : goal.returns-clause-each
returns-clause-each c = full_is_all

pub returns-clause-joined : goal.returns-clause-joined
returns-clause-joined c = joined_is_full

pub returns-clause-joins : goal.returns-clause-joins
returns-clause-joins c = full_joins

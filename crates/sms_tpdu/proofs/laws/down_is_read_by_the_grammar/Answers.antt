use Rattle.sms_tpdu.proofs.Carriers.{down_again, down_takes}
use Rattle.sms_tpdu.proofs.laws.down_is_read_by_the_grammar.Goals as goal

pub returns-clause-found : goal.returns-clause-found
returns-clause-found c = down_takes

pub returns-clause-only : goal.returns-clause-only
returns-clause-only c = down_again

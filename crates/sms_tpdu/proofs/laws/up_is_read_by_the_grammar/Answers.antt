use Rattle.sms_tpdu.proofs.Carriers.{up_again, up_takes}
use Rattle.sms_tpdu.proofs.laws.up_is_read_by_the_grammar.Goals as goal

pub returns-clause-found : goal.returns-clause-found
returns-clause-found c = up_takes

pub returns-clause-only : goal.returns-clause-only
returns-clause-only c = up_again

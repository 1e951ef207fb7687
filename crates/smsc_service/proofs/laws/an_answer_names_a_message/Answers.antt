use Rattle.smsc_service.proofs.RokNames.{answer_stands}
use Rattle.smsc_service.proofs.laws.an_answer_names_a_message.Goals as goal

pub returns : goal.returns
returns c = answer_stands

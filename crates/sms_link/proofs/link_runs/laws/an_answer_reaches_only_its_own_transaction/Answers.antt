use Rattle.sms_link.proofs.link_runs.Endings.{answer_is_passed_up, other_never}
use Rattle.sms_link.proofs.link_runs.laws.an_answer_reaches_only_its_own_transaction.Goals as goal

pub returns : goal.returns
returns c = record { own = answer_is_passed_up; other = other_never }

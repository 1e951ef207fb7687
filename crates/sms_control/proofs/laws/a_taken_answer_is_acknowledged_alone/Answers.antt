use Rattle.sms_control.proofs.AnswerLaws.{acknowledged_alone, passed_up_once}
use Rattle.sms_control.proofs.laws.a_taken_answer_is_acknowledged_alone.Goals as goal

pub returns-clause-alone : goal.returns-clause-alone
returns-clause-alone c = acknowledged_alone

pub returns-clause-quiet : goal.returns-clause-quiet
returns-clause-quiet c = passed_up_once

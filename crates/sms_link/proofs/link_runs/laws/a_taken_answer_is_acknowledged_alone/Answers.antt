use Rattle.sms_link.proofs.link_runs.AnswerAlone.{acknowledged_bare}
use Rattle.sms_link.proofs.link_runs.laws.a_taken_answer_is_acknowledged_alone.Goals as goal

pub returns : goal.returns
returns c = acknowledged_bare

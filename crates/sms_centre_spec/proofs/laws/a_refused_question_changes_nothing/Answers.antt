use Rattle.sms_centre_spec.proofs.QuestionsRefused.{cancel_refused, query_refused}
use Rattle.sms_centre_spec.proofs.laws.a_refused_question_changes_nothing.Goals as goal

pub returns : goal.returns
returns c = record { query = query_refused; cancel = cancel_refused }

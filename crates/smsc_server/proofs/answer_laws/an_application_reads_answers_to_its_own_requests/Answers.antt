use Rattle.smsc_server.proofs.CentresAnswers.{reads_answers}
use Rattle.smsc_server.proofs.answer_laws.an_application_reads_answers_to_its_own_requests.Goals as goal

pub returns : goal.returns
returns c = reads_answers

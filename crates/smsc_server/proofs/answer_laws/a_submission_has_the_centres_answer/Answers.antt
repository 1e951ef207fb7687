use Rattle.smsc_server.proofs.AnswersAmongReplies.{submission_replied}
use Rattle.smsc_server.proofs.answer_laws.a_submission_has_the_centres_answer.Goals as goal

pub returns : goal.returns
returns c = λ s seat account asked pdu whole message answer few reads is there. submission_replied s seat account asked pdu whole message answer few reads is there

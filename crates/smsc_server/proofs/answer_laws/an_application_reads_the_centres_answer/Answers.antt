use Rattle.smpp_session.specs.Sessions.{after_answered}
use Rattle.smpp_session.specs.Stream.{header_at}
use Rattle.smpp_session.specs.declared.answer.Request.TheVariants.{Submit as SubmitRequest}
use Rattle.smsc_endpoint.specs.EsmeCalls.{pending}
use Rattle.smsc_endpoint.specs.EsmeRuns.{responses, throttled_among}
use Rattle.smsc_server.proofs.answer_laws.an_application_reads_the_centres_answer.Goals as goal

pub returns : goal.returns
returns c = λ s seat account pdu whole message answer e requests few reads is there waits bound is_open. (
  (c.a_submission_has_the_centres_answer.ensures s seat account seat pdu whole message answer few reads is there).1,
  (
    responses (after_answered (header_at pdu).sequence_number e.session) (throttled_among requests),
    c.the_oldest_request_is_answered.ensures e (pending SubmitRequest (header_at pdu)) requests answer waits bound is_open,
  ),
)

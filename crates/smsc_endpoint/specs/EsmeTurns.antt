-- Which answer each request of an application has.
use Rattle.std.specs.Prelude.{◌≡◌, ◌<◌, List, [], ◌∷◌, ◌++◌, length, map, Option, Some, None, Bool, true, false, if◌then◌else◌}
use Rattle.std.specs.List.{AllByRecursion}
use Rattle.smpp_pdu.specs.declared.status.CommandStatus.TheVariants.{ESME_RTHROTTLED}
use Rattle.smpp_session.specs.declared.account.Account.{Account}
use Rattle.sms_centre_spec.specs.declared.answer.CentreAnswer.{CentreAnswer}
use Rattle.sms_centre_spec.specs.declared.answer.CentreAnswer.TheVariants.{Refused}
use Rattle.sms_centre_spec.specs.declared.jobs.job.Job.{Job}
use Rattle.sms_centre_spec.specs.declared.jobs.reply.Reply.{Reply}
use Rattle.sms_centre_spec.specs.declared.jobs.reply.Reply.TheVariants.{Answer, Receipt, Frame, Taken}
use Rattle.sms_centre_spec.specs.jobs.Requests.{is_request}
use Rattle.smsc_endpoint.specs.declared.pending.PendingRequest.{PendingRequest}
use Rattle.smsc_endpoint.specs.EsmeCalls.{handed_out}
use Rattle.smsc_endpoint.specs.EsmeRuns.{Answered, EsmeCall, EsmeProgress, called_once, request_of, started}
use Rattle.smsc_endpoint.specs.EsmeRuns.{Hear, Put, PutBack}
use Rattle.smsc_endpoint.specs.Outbox.{requests_among}
use Rattle.smsc_endpoint.specs.PendingRequests.{is_throttled_first}

-- The progress of an endpoint, for each request that was handed out whether it was handed back, and the answers that were heard.
pub record EsmeTurns : Type 0 where
  pub progress : EsmeProgress
  pub back : List Bool
  pub heard : List CentreAnswer

abbrev pub begun : List Account → EsmeTurns
begun accounts = record { progress = started accounts; back = []; heard = [] }

abbrev pub if_request : Bool → Option Job → List Bool
if_request is_back None = []
if_request is_back (Some job) = if is_request job then is_back ∷ [] else []

abbrev pub back_by : EsmeTurns → EsmeCall → List Bool
back_by t Put = if_request false (handed_out t.progress.esme).0
back_by t PutBack = if_request true (handed_out t.progress.esme).0
back_by t call = []

abbrev pub answer_in : Reply → List CentreAnswer
answer_in (Answer answer) = answer ∷ []
answer_in (Receipt end) = []
answer_in (Frame octets) = []
answer_in Taken = []

abbrev pub heard_in : EsmeCall → List CentreAnswer
heard_in (Hear reply) = answer_in reply
heard_in call = []

abbrev pub turned : EsmeTurns → EsmeCall → EsmeTurns
turned t call = record { progress = called_once t.progress call; back = t.back ++ back_by t call; heard = t.heard ++ heard_in call }

abbrev pub turned_all : EsmeTurns → List EsmeCall → EsmeTurns
turned_all t [] = t
turned_all t (call ∷ calls) = turned_all (turned t call) calls

-- An answer is heard only where the keeper has a request: not all that wait are still to be put.
abbrev pub IsReplyInTurn : EsmeTurns → Reply → Type 0
IsReplyInTurn t (Answer answer) = requests_among t.progress.esme.outbox.jobs < length t.progress.esme.waiting
IsReplyInTurn t (Receipt end) = Unit {0}
IsReplyInTurn t (Frame octets) = Unit {0}
IsReplyInTurn t Taken = Unit {0}

abbrev pub IsInTurn : EsmeTurns → EsmeCall → Type 0
IsInTurn t (Hear reply) = IsReplyInTurn t reply
IsInTurn t call = Unit {0}

abbrev pub AreInTurn : EsmeTurns → List EsmeCall → Type 0
AreInTurn t [] = Unit {0}
AreInTurn t (call ∷ calls) = IsInTurn t call × AreInTurn (turned t call) calls

abbrev pub was_back : PendingRequest → Bool
was_back request = request.is_throttled

-- the answers of requests that were not handed back
abbrev pub answers_heard : List Answered → List CentreAnswer
answers_heard [] = []
answers_heard (answered ∷ others) = if was_back answered.0 then answers_heard others else answered.1 ∷ answers_heard others

-- a request that was handed back is answered ESME_RTHROTTLED
abbrev pub IsThrottledAnswer : Answered → Type 0
IsThrottledAnswer answered = was_back answered.0 ≡ true → answered.1 ≡ Refused ESME_RTHROTTLED

-- Those that were handed out have their mark in order, and the others wait to be handed out. Who was handed back is answered
-- ESME_RTHROTTLED; the others have the answers that were heard, in order.
pub record HasTurns (t : EsmeTurns) : Type 0 where
  pub handed : List PendingRequest
  pub queued : List PendingRequest
  pub split : t.progress.esme.waiting ≡ handed ++ queued
  pub count : length queued ≡ requests_among t.progress.esme.outbox.jobs
  pub fresh : AllByRecursion (λ request. was_back request ≡ false) queued
  pub first : is_throttled_first t.progress.esme.waiting ≡ false
  pub marks : map was_back (map request_of t.progress.answers ++ handed) ≡ t.back
  pub heard : answers_heard t.progress.answers ≡ t.heard
  pub throttled : AllByRecursion IsThrottledAnswer t.progress.answers

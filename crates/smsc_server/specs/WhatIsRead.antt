-- What an application reads on its connection, and what each octet of it answers.
use Rattle.std.specs.Prelude.{◌≡◌, ◌≢◌, ◌⊎◌, ℕ, List, [], ◌∷◌, ◌++◌, Option, Some, None, Bool, true, false, map, ⊤}
use Rattle.std.specs.List.{AllByRecursion}
use Rattle.sms_base.specs.Among.{Among}
use Rattle.smpp_session.specs.declared.account.Account.{Account}
use Rattle.smpp_session.specs.declared.action.Action.{Action}
use Rattle.smpp_session.specs.declared.action.Action.TheVariants.{Submit, Query, Cancel}
use Rattle.smpp_session.specs.declared.calling.Call.TheVariants.{Deliver}
use Rattle.smpp_session.specs.Calls.{called}
use Rattle.smpp_session.specs.Sessions.{SessionView, after_answered, fed, unbinding}
use Rattle.sms_centre_spec.specs.declared.jobs.job.Job.{Job}
use Rattle.sms_centre_spec.specs.declared.jobs.reply.Reply.{Reply}
use Rattle.sms_centre_spec.specs.declared.jobs.reply.Reply.TheVariants.{Answer, Receipt, Frame, Taken}
use Rattle.sms_receipt.specs.declared.final_message.Final.{Final}
use Rattle.sms_receipt.specs.Receipts.{receipt_of}
use Rattle.smsc_loop.specs.Calls.{Call, octets_sent, octets_taken, replies_taken}
use Rattle.smsc_endpoint.specs.EsmeCalls.{handed_back, handed_out, is_sendable}
use Rattle.smsc_endpoint.specs.EsmeRuns.{Answered, EsmeCall, EsmeProgress, answered_among, called_all, called_once, fresh, octets_or_none, request_of}
use Rattle.smsc_endpoint.specs.EsmeRuns.{requests_from, sends_from, started, throttled_among}
use Rattle.smsc_endpoint.specs.EsmeRuns.{At, TellFull, Take, Hear, Say, WasSent, Leave, Put, PutBack, Tell}
use Rattle.smsc_endpoint.specs.EsmeView.{EsmeView}
use Rattle.smsc_endpoint.specs.LoopCourses.{calls_of}
use Rattle.smsc_endpoint.specs.Outbox.{requests_among}
use Rattle.smsc_endpoint.specs.PendingRequests.{throttled_before}
use Rattle.smsc_endpoint.specs.Refusing.{no_room, enquire_link}
use Rattle.smsc_endpoint.specs.Responses.{response}

-- ---- requests that arrived

-- the octets of the requests among actions: submit_sm, query_sm and cancel_sm, as they arrived
abbrev pub requests_in : List Action → List (List ℕ)
requests_in [] = []
requests_in (Submit pdu priority ∷ actions) = pdu ∷ requests_in actions
requests_in (Query pdu ∷ actions) = pdu ∷ requests_in actions
requests_in (Cancel pdu ∷ actions) = pdu ∷ requests_in actions
requests_in (action ∷ actions) = requests_in actions

-- These stand in the octets, one behind the other, and none overlaps another.
abbrev pub StandIn : List (List ℕ) → List ℕ → Type 0
StandIn [] octets = ⊤
StandIn (one ∷ others) octets = (before : List ℕ) × (behind : List ℕ) × (octets ≡ before ++ (one ++ behind)) × StandIn others behind

-- ---- what is written

-- a part of what is written, by why it is
pub data Part : Type 0 where
  -- what the session table gives, in that session, to these octets that arrived
  OfTable : SessionView → List ℕ → Part
  -- the answer to a request of that session
  OfAnswer : SessionView → Answered → Part
  -- the receipt of a message that ended
  OfReceipt : SessionView → Final → Part
  -- the unbind of the centre
  OfLeaving : SessionView → Part
  -- of the server: enquire_link, or that there is no room
  OfServer : List ℕ → Part

abbrev pub octets_of_part : Part → List ℕ
octets_of_part (OfTable session octets) = sends_from (fed session octets).1
octets_of_part (OfAnswer session answered) = octets_or_none (response session.conversation answered.0 answered.1)
octets_of_part (OfReceipt session end) = sends_from (called session (Deliver (receipt_of end))).1
octets_of_part (OfLeaving session) = octets_or_none (unbinding session.conversation.state)
octets_of_part (OfServer octets) = octets

abbrev pub octets_of_parts : List Part → List ℕ
octets_of_parts [] = []
octets_of_parts (part ∷ parts) = octets_of_part part ++ octets_of_parts parts

-- the requests that are answered, with their answers
abbrev pub answer_in : Part → List Answered
answer_in (OfAnswer session answered) = answered ∷ []
answer_in part = []

abbrev pub answers_in : List Part → List Answered
answers_in [] = []
answers_in (part ∷ parts) = answer_in part ++ answers_in parts

-- the messages whose receipts these are
abbrev pub receipt_in : Part → List Final
receipt_in (OfReceipt session end) = end ∷ []
receipt_in part = []

abbrev pub receipts_in : List Part → List Final
receipts_in [] = []
receipts_in (part ∷ parts) = receipt_in part ++ receipts_in parts

-- the server says by itself only these
abbrev pub IsOwn : Part → Type 0
IsOwn (OfServer octets) = (octets ≡ no_room) ⊎ (octets ≡ enquire_link)
IsOwn part = ⊤

-- ---- the parts of a course

-- answers one after the other
abbrev pub answer_parts : SessionView → List Answered → List Part
answer_parts session [] = []
answer_parts session (answered ∷ others) = OfAnswer session answered ∷ answer_parts (after_answered answered.0.sequence_number session) others

abbrev pub receipt_parts : Bool → SessionView → Final → List Part
receipt_parts true session end = OfReceipt session end ∷ []
receipt_parts false session end = []

abbrev pub heard_parts : Reply → EsmeView → List Part
heard_parts (Answer answer) e = answer_parts e.session (answered_among e.waiting answer)
heard_parts (Receipt end) e = receipt_parts (is_sendable end) e.session end
heard_parts (Frame octets) e = []
heard_parts Taken e = []

-- where a request is handed back, those that are answered meanwhile
abbrev pub taken_back_parts : Bool → EsmeView → SessionView → List Part
taken_back_parts true before session = []
taken_back_parts false before session = answer_parts session (throttled_among (throttled_before (requests_among before.outbox.jobs) before.waiting))

abbrev pub put_back_parts : Option Job × EsmeView → SessionView → List Part
put_back_parts (None, e) session = []
put_back_parts (Some job, e) session = taken_back_parts (handed_back job e).0 e session

-- what a call adds to what is to be written
abbrev pub parts_once : EsmeProgress → EsmeCall → List Part
parts_once c (At now) = []
parts_once c (TellFull full) = []
parts_once c (Take octets) = OfTable c.esme.session octets ∷ []
parts_once c (Hear reply) = heard_parts reply c.esme
parts_once c (Say octets) = OfServer octets ∷ []
parts_once c (WasSent count) = []
parts_once c Leave = OfLeaving c.esme.session ∷ []
parts_once c Put = []
parts_once c PutBack = put_back_parts (handed_out c.esme) c.esme.session
parts_once c Tell = []

abbrev pub parts_all : EsmeProgress → List EsmeCall → List Part
parts_all c [] = []
parts_all c (call ∷ calls) = parts_once c call ++ parts_all (called_once c call) calls

-- ---- what is claimed

-- Of the course of these calls of the loop: what was written, and then what still waits to be, is each part one after the other. The requests
-- that were passed up stand in what arrived. Those that were answered are the first of them: each once, in order, and under its own number.
-- Each receipt was taken from the seat.
pub record Reads (accounts : List Account) (calls : List Call) (c : EsmeProgress) (parts : List Part) : Type 0 where
  pub written_so : octets_of_parts parts ≡ octets_sent calls ++ c.esme.outbox.octets
  pub own : AllByRecursion IsOwn parts
  pub requests : StandIn (requests_in c.given) (octets_taken calls)
  pub answered : map fresh (map request_of (answers_in parts) ++ c.esme.waiting) ≡ requests_from c.given
  pub receipts : (end : Final) → Among end (receipts_in parts) → Among (Receipt end) (replies_taken calls)

abbrev pub course_of : List Account → List Call → EsmeProgress
course_of accounts calls = called_all (started accounts) (calls_of calls)

-- With fewer than three wrong binds. While the connection was served without a refusal of memory it read so; behind that nothing was written.
abbrev pub IsRead : List Account → List Call → Type 0
IsRead accounts calls =
    (one : List Call) × (other : List Call) × (calls ≡ one ++ other) × (octets_sent other ≡ [])
    × ((course_of accounts one).esme.wrong_binds ≢ 0 → Reads accounts one (course_of accounts one) (parts_all (started accounts) (calls_of one)))

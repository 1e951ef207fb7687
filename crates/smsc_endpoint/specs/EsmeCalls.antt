-- The calls of an application's session at a seat: what each leads to.
use Rattle.std.specs.Prelude.{ℕ, ◌+◌, ◌-◌, ◌^◌, ◌==◌, ◌&&◌, ◌||◌, not, min, nat_le, nat_lt, List, [], ◌∷◌, ◌++◌, length, Option, Some, None, Bool, true, false}
use Rattle.std.specs.Prelude.{if◌then◌else◌}
use Rattle.std.specs.List.{remove}
use Rattle.std.specs.Option.{is_some}
use Rattle.sms_base.specs.HandsetNumber.{own_address}
use Rattle.smpp_pdu.specs.declared.status.CommandStatus.{CommandStatus}
use Rattle.smpp_pdu.specs.declared.status.CommandStatus.TheVariants.{ESME_RALYBND, ESME_RINVBNDSTS, ESME_RTHROTTLED}
use Rattle.smpp_pdu.specs.Statuses.{status_number}
use Rattle.smpp_pdu.specs.declared.header.Header.{Header}
use Rattle.smpp_pdu.specs.declared.message.Message.{Message}
use Rattle.smpp_pdu.specs.Writing.{written}
use Rattle.smpp_session.specs.declared.action.Action.{Action}
use Rattle.smpp_session.specs.declared.action.Action.TheVariants.{Send, Bound, Submit, Query, Cancel, DeliverAnswered, BindRefused, Unbound}
use Rattle.smpp_session.specs.declared.action.BindKind.{BindKind}
use Rattle.smpp_session.specs.declared.action.BindKind.TheVariants.{Transmitter, Receiver, Transceiver}
use Rattle.smpp_session.specs.declared.answer.Request.{Request}
use Rattle.smpp_session.specs.declared.answer.Request.TheVariants.{Submit as SubmitRequest, Query as QueryRequest, Cancel as CancelRequest}
use Rattle.smpp_session.specs.declared.fault.DeliverFault.{DeliverFault}
use Rattle.smpp_session.specs.Bindings.{is_bound, is_bind_lost, is_closed}
use Rattle.smpp_session.specs.Sessions.{SessionView, fed, delivery_fault, deliver_pdu, for_version, number_to_send, unbinding}
use Rattle.smpp_session.specs.Sessions.{after_answered, after_close, after_delivery, after_unbind, with_full}
use Rattle.smpp_session.specs.Stream.{header_at}
use Rattle.smpp_session.specs.Windows.{is_none}
use Rattle.smsc_loop.specs.declared.note.Counts.{Counts}
use Rattle.smsc_loop.specs.declared.note.Note.{Note}
use Rattle.smsc_loop.specs.declared.note.Note.TheVariants.{Bound as BoundNote, BindRefused as BindRefusedNote, WrongBinds, Unbound as UnboundNote}
use Rattle.smsc_loop.specs.declared.note.Note.TheVariants.{SubmitRefused}
use Rattle.sms_centre_rows.specs.conditions.AddressTest.{is_address}
use Rattle.sms_centre_spec.specs.declared.answer.CentreAnswer.{CentreAnswer}
use Rattle.sms_centre_spec.specs.declared.answer.CentreAnswer.TheVariants.{Refused}
use Rattle.sms_centre_spec.specs.declared.jobs.job.Job.{Job}
use Rattle.sms_centre_spec.specs.declared.jobs.job.Job.TheVariants.{Bound as BoundJob, Unbound as UnboundJob, Submit as SubmitJob, Query as QueryJob}
use Rattle.sms_centre_spec.specs.declared.jobs.job.Job.TheVariants.{Cancel as CancelJob, DeliverAnswered as DeliverAnsweredJob}
use Rattle.sms_centre_spec.specs.declared.jobs.reply.Reply.{Reply}
use Rattle.sms_centre_spec.specs.declared.jobs.reply.Reply.TheVariants.{Answer, Receipt, Frame, Taken}
use Rattle.sms_centre_spec.specs.jobs.Requests.{is_request}
use Rattle.sms_receipt.specs.declared.final_message.Final.{Final}
use Rattle.sms_receipt.specs.Receipts.{receipt_of}
use Rattle.smsc_endpoint.specs.declared.pending.PendingRequest.{PendingRequest}
use Rattle.smsc_endpoint.specs.BindName.{shown_name}
use Rattle.smsc_endpoint.specs.EsmeView.{EsmeView}
use Rattle.smsc_endpoint.specs.Outbox.{OutboxView, with_octets, without_octets, closed, with_job, with_next, next_of, requests_among, is_request_first}
use Rattle.smsc_endpoint.specs.PendingRequests.{is_any_request, throttled_before, left_without}
use Rattle.smsc_endpoint.specs.Responses.{response}
use Rattle.smsc_endpoint.specs.SentReceipts.{found_under}

abbrev pub saying : List ℕ → EsmeView → EsmeView
saying octets e = record e { outbox = with_octets octets e.outbox }

abbrev pub asking : Job → EsmeView → EsmeView
asking job e = record e { outbox = with_job job e.outbox }

-- ---- what an operator may want to know

abbrev pub noting : Note → EsmeView → EsmeView
noting note e = record e { notes = e.notes ++ note ∷ [] }

-- the next note, and what is left
abbrev pub first_note : List Note → EsmeView → Option Note × EsmeView
first_note [] e = (None, e)
first_note (note ∷ notes) e = (Some note, record e { notes = notes })

abbrev pub next_note : EsmeView → Option Note × EsmeView
next_note e = first_note e.notes e

-- ---- refused submit_sm

-- the header of octets, if it is whole
abbrev pub header_in : List ℕ → Option Header
header_in octets = if nat_lt (length octets) 16 then None else Some (header_at octets)

-- a submit_sm_resp with another status than ESME_ROK (SMPP v3.4 4.4.2)
abbrev pub refuses_submit : Header → Bool
refuses_submit header = (header.command_id == 0x80000004) && not (header.command_status == 0)

abbrev pub submit_refused : Option Header → List Note
submit_refused None = []
submit_refused (Some header) = if refuses_submit header then SubmitRefused header.command_status ∷ [] else []

-- A PDU of the session is to be sent. One that refuses a submit_sm is worth a note.
abbrev pub sending_pdu : List ℕ → EsmeView → EsmeView
sending_pdu octets e = record e { outbox = with_octets octets e.outbox; notes = e.notes ++ submit_refused (header_in octets) }

-- ---- counts

-- so many more, as far as a number goes
abbrev pub and_more : ℕ → ℕ → ℕ
and_more more count = min (count + more) (2 ^ 64 - 1)

abbrev pub submits_in : Request → ℕ
submits_in SubmitRequest = 1
submits_in QueryRequest = 0
submits_in CancelRequest = 0

abbrev pub with_counts : Counts → EsmeView → EsmeView
with_counts counts e = record e { counts = counts }

abbrev pub counting_request : Request → EsmeView → EsmeView
counting_request request e = with_counts (record e.counts {
  requests = and_more 1 e.counts.requests;
  submits = and_more (submits_in request) e.counts.submits;
}) e

abbrev pub counting_receipt : EsmeView → EsmeView
counting_receipt e = with_counts (record e.counts { receipts = and_more 1 e.counts.receipts }) e

abbrev pub counting_received : ℕ → EsmeView → EsmeView
counting_received count e = with_counts (record e.counts { received = and_more count e.counts.received }) e

abbrev pub counting_sent : ℕ → EsmeView → EsmeView
counting_sent count e = with_counts (record e.counts { sent = and_more count e.counts.sent }) e

-- ---- wrong binds

abbrev pub moment_or : ℕ → Option ℕ → ℕ
moment_or now None = now
moment_or now (Some moment) = moment

abbrev pub closed_where : Bool → SessionView → SessionView
closed_where is_last session = if is_last then after_close session else session

abbrev pub last_wrong : Bool → List Note
last_wrong is_last = if is_last then WrongBinds ∷ [] else []

-- What waits to be sent is held a second longer, and the last wrong bind ends the session.
abbrev pub bound_wrongly : EsmeView → EsmeView
bound_wrongly e = record e {
  session = closed_where (e.wrong_binds - 1 == 0) e.session;
  notes = e.notes ++ last_wrong (e.wrong_binds - 1 == 0);
  wrong_binds = e.wrong_binds - 1;
  held = Some (min (moment_or e.time e.held + 1000) (2 ^ 64 - 1));
}

-- A bind that is refused since the session is bound already, or was, is no wrong one.
abbrev pub is_wrong : CommandStatus → Bool
is_wrong ESME_RALYBND = false
is_wrong ESME_RINVBNDSTS = false
is_wrong status = true

abbrev pub wrong_where : Bool → EsmeView → EsmeView
wrong_where is_wrong e = if is_wrong then bound_wrongly e else e

abbrev pub bind_refused : CommandStatus → List ℕ → EsmeView → EsmeView
bind_refused status name e = wrong_where (is_wrong status) (noting (BindRefusedNote (status_number status) (shown_name name)) e)

-- ---- the actions of the session

-- an account is named by an octet; there are at most 32
abbrev pub account_octet : ℕ → ℕ
account_octet place = if nat_lt place 256 then place else 255

abbrev pub account_of : Option ℕ → ℕ
account_of None = 255
account_of (Some account) = account

abbrev pub receives : BindKind → Bool
receives Transmitter = false
receives Receiver = true
receives Transceiver = true

abbrev pub request_job : Request → ℕ → List ℕ → Job
request_job SubmitRequest account pdu = SubmitJob account pdu
request_job QueryRequest account pdu = QueryJob account pdu
request_job CancelRequest account pdu = CancelJob account pdu

abbrev pub pending : Request → Header → PendingRequest
pending request header = record { sequence_number = header.sequence_number; request = request; is_throttled = false }

abbrev pub passed_with : Option Header → Request → List ℕ → EsmeView → EsmeView
passed_with None request pdu e = e
passed_with (Some header) request pdu e = counting_request request (record e {
  waiting = e.waiting ++ pending request header ∷ [];
  outbox = with_job (request_job request (account_of e.account) pdu) e.outbox;
})

-- A request is passed up, and waits for its answer.
abbrev pub passed_up : Request → List ℕ → EsmeView → EsmeView
passed_up request pdu e = passed_with (header_in pdu) request pdu e

abbrev pub receipt_answered : Option (ℕ × ℕ) → Bool → EsmeView → EsmeView
receipt_answered None is_accepted e = e
receipt_answered (Some found) is_accepted e =
    record e { receipts = remove e.receipts found.0; outbox = with_job (DeliverAnsweredJob found.1 is_accepted) e.outbox }

abbrev pub bound : ℕ → BindKind → EsmeView → EsmeView
bound account kind e =
    noting (BoundNote account kind) (record e { account = Some account; outbox = with_job (BoundJob account (receives kind)) e.outbox })

abbrev pub unbound : EsmeView → EsmeView
unbound e = noting UnboundNote (record e { account = None; receipts = []; outbox = with_job UnboundJob e.outbox })

abbrev pub acted : Action → EsmeView → EsmeView
acted (Send octets) e = sending_pdu octets e
acted (Bound place kind) e = bound (account_octet place) kind e
acted (Submit pdu priority) e = passed_up SubmitRequest pdu e
acted (Query pdu) e = passed_up QueryRequest pdu e
acted (Cancel pdu) e = passed_up CancelRequest pdu e
acted (DeliverAnswered number is_accepted) e = receipt_answered (found_under number e.receipts) is_accepted e
acted (BindRefused status name) e = bind_refused status name e
acted Unbound e = unbound e

-- what follows the last wrong bind is not done
abbrev pub acted_next : EsmeView → Action → EsmeView
acted_next e action = if e.wrong_binds == 0 then e else acted action e

abbrev pub acted_all : EsmeView → List Action → EsmeView
acted_all e [] = e
acted_all e (action ∷ actions) = acted_all (acted_next e action) actions

-- an account that is bound no longer, though no action says so
abbrev pub unbound_where : Bool → EsmeView → EsmeView
unbound_where is_lost e = if is_lost then acted_next e Unbound else e

abbrev pub with_session : SessionView → EsmeView → EsmeView
with_session session e = record e { session = session }

-- It is told which accounts are full.
abbrev pub told : List Bool → EsmeView → EsmeView
told full e = with_session (with_full full e.session) e

abbrev pub taken_in : SessionView × List Action → EsmeView → EsmeView
taken_in given e =
    unbound_where (is_bind_lost e.session.conversation.state given.1 given.0.conversation.state) (acted_all (with_session given.0 e) given.1)

-- The session takes octets, and its actions are done in order.
abbrev pub taken : List ℕ → EsmeView → EsmeView
taken octets e = taken_in (fed e.session octets) (counting_received (length octets) e)

-- ---- answers

abbrev pub responding : Option (List ℕ) → EsmeView → EsmeView
responding None e = e
responding (Some octets) e = sending_pdu octets e

-- the request is answered, and these are left
abbrev pub answered_one : PendingRequest → List PendingRequest → CentreAnswer → EsmeView → EsmeView
answered_one request requests answer e =
    responding (response e.session.conversation request answer) (record e {
      session = after_answered request.sequence_number e.session;
      waiting = requests;
      with_keeper = left_without request e.with_keeper;
    })

abbrev pub answered_first : List PendingRequest → CentreAnswer → EsmeView → EsmeView
answered_first [] answer e = e
answered_first (request ∷ requests) answer e = answered_one request requests answer e

-- The oldest request is answered.
abbrev pub answered_next : CentreAnswer → EsmeView → EsmeView
answered_next answer e = answered_first e.waiting answer e

abbrev pub throttled_first : List PendingRequest → EsmeView → EsmeView
throttled_first [] e = e
throttled_first (request ∷ requests) e =
    if request.is_throttled then throttled_first requests (answered_one request requests (Refused ESME_RTHROTTLED) e) else e

-- The oldest requests that were handed back are answered, each in its turn.
abbrev pub throttled_next : EsmeView → EsmeView
throttled_next e = throttled_first e.waiting e

-- ---- receipts

abbrev pub refused_receipt : ℕ → EsmeView → EsmeView
refused_receipt id e = asking (DeliverAnsweredJob id false) e

-- whether a receipt of the message can be written: its addresses can
abbrev pub is_sendable : Final → Bool
is_sendable end = is_address end.source && is_address (own_address end.handset)

-- the receipt, as the application takes it
abbrev pub receipt_for : EsmeView → Final → Message
receipt_for e end = for_version e.session.conversation.interface_version (receipt_of end)

abbrev pub receipt_sent : ℕ → Final → EsmeView → EsmeView
receipt_sent number end e = counting_receipt (record e {
  session = after_delivery e.session;
  receipts = e.receipts ++ record { sequence_number = number; id = end.id; since = e.time } ∷ [];
  outbox = with_octets (written (deliver_pdu number (receipt_for e end))) e.outbox;
})

abbrev pub receipt_by : Option DeliverFault → Final → EsmeView → EsmeView
receipt_by None end e = receipt_sent (number_to_send e.session.conversation) end e
receipt_by (Some fault) end e = refused_receipt end.id e

-- A receipt is sent under the session's next number, or is refused where it can't be.
abbrev pub receipt_given : Final → EsmeView → EsmeView
receipt_given end e = if is_sendable end then receipt_by (delivery_fault e.session.conversation) end e else refused_receipt end.id e

abbrev pub heard : Reply → EsmeView → EsmeView
heard (Answer answer) e = throttled_next (answered_next answer e)
heard (Receipt end) e = receipt_given end e
heard (Frame octets) e = e
heard Taken e = e

-- ---- jobs

-- eight requests that it took have no answer yet, with the keeper or waiting for their turn
abbrev pub is_loaded : EsmeView → Bool
is_loaded e = nat_le 8 (length e.waiting)

-- the keeper is given no more requests now
abbrev pub is_busy : EsmeView → Bool
is_busy e = nat_le 8 e.with_keeper

-- at most eight are with it
abbrev pub one_more : Bool → ℕ → ℕ
one_more is_request count = if is_request && nat_lt count 8 then count + 1 else count

abbrev pub handing : Option Job × OutboxView → EsmeView → Option Job × EsmeView
handing (None, outbox) e = (None, record e { outbox = outbox })
handing (Some job, outbox) e = (Some job, record e { outbox = outbox; with_keeper = one_more (is_request job) e.with_keeper })

abbrev pub handed_out : EsmeView → Option Job × EsmeView
handed_out e = if is_request_first e.outbox.jobs && is_busy e then (None, e) else handing (next_of e.outbox) e

-- The request that was handed out last is handed back.
abbrev pub request_back : EsmeView → EsmeView
request_back e =
    throttled_next (record e { waiting = throttled_before (requests_among e.outbox.jobs) e.waiting; with_keeper = e.with_keeper - 1 })

-- A request is answered in its turn; anything else is handed out again.
abbrev pub handed_back : Job → EsmeView → Bool × EsmeView
handed_back job e = if is_request job then (false, request_back e) else (true, record e { outbox = with_next job e.outbox })

-- ---- time and octets

abbrev pub held_at : ℕ → Option ℕ → Option ℕ
held_at now None = None
held_at now (Some until) = if nat_le until now then None else Some until

abbrev pub at_time : ℕ → EsmeView → EsmeView
at_time now e = record e { time = now; held = held_at now e.held }

abbrev pub octets_where : Option ℕ → List ℕ → List ℕ
octets_where None octets = octets
octets_where (Some until) octets = []

-- the octets to send now
abbrev pub octets_of : EsmeView → List ℕ
octets_of e = octets_where e.held e.outbox.octets

abbrev pub sent : ℕ → EsmeView → EsmeView
sent count e = counting_sent count (record e { outbox = without_octets count e.outbox })

-- ---- the end

-- whether requests that were taken have no answer
abbrev pub owes : SessionView → Bool
owes session = not (is_none session.conversation.owed)

-- A bound session is sent unbind. One that is not bound and owes no answer leaves at once.
abbrev pub asked_to_leave : EsmeView → Bool × EsmeView
asked_to_leave e = (
  is_bound e.session.conversation.state || owes e.session,
  responding (unbinding e.session.conversation.state) (with_session (after_unbind e.session) e),
)

-- who the application is, is known as long as it is bound, or is still to have answers
abbrev pub is_known : EsmeView → Bool
is_known e = is_some e.account || owes e.session

-- Nothing is taken and given any more. No request of a session that is over lacks its answer.
abbrev pub is_over : EsmeView → Bool
is_over e = not (is_some e.held) && (is_closed e.session.conversation.state && not (is_any_request e.waiting))

abbrev pub last_job : EsmeView → Option Job
last_job e = if is_bound e.session.conversation.state then Some UnboundJob else None

abbrev pub ended : EsmeView → EsmeView
ended e = record e { session = after_close e.session; outbox = closed e.outbox }

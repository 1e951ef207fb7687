-- The answer to one PDU, by the state of the session (SMPP v3.4 2.2, 2.3, 4).
use Rattle.std.specs.Prelude.{ℕ, List, [], ◌∷◌, ◌++◌, Option, Some, None, Result, Ok, Err, Bool, true, false, ◌==◌, nat_lt, nat_le, if◌then◌else◌, codes}
use Rattle.smpp_pdu.specs.declared.fault.PduFault.{PduFault}
use Rattle.smpp_pdu.specs.declared.fault.PduFault.TheVariants.{Truncated, BadLength, UnknownCommand, NoTerminator, BadTlv, FieldTooLong, ShortMessageTooLong}
use Rattle.smpp_pdu.specs.declared.command.CommandId.{CommandId}
use Rattle.smpp_pdu.specs.declared.command.CommandId.TheVariants.{BindReceiver as BindReceiverId, BindTransmitter as BindTransmitterId}
use Rattle.smpp_pdu.specs.declared.command.CommandId.TheVariants.{BindTransceiver as BindTransceiverId, SubmitSm as SubmitSmId, DeliverSm as DeliverSmId}
use Rattle.smpp_pdu.specs.declared.command.CommandId.TheVariants.{QuerySm as QuerySmId, CancelSm as CancelSmId, Unbind as UnbindId}
use Rattle.smpp_pdu.specs.declared.command.CommandId.TheVariants.{EnquireLink as EnquireLinkId, GenericNack as GenericNackId, DeliverSmResp as DeliverSmRespId}
use Rattle.smpp_pdu.specs.declared.command.CommandId.TheVariants.{UnbindResp as UnbindRespId}
use Rattle.smpp_pdu.specs.declared.status.CommandStatus.{CommandStatus}
use Rattle.smpp_pdu.specs.declared.status.CommandStatus.TheVariants.{ESME_ROK, ESME_RINVMSGLEN, ESME_RINVCMDLEN, ESME_RINVCMDID, ESME_RINVBNDSTS, ESME_RALYBND}
use Rattle.smpp_pdu.specs.declared.status.CommandStatus.TheVariants.{ESME_RBINDFAIL, ESME_RINVPASWD, ESME_RINVSYSID, ESME_RINVOPTPARSTREAM, ESME_RINVPARLEN}
use Rattle.smpp_pdu.specs.declared.bind.Bind.{Bind}
use Rattle.smpp_pdu.specs.declared.bind.BindResp.{BindResp}
use Rattle.smpp_pdu.specs.declared.body.Body.{Body}
use Rattle.smpp_pdu.specs.declared.body.Body.TheVariants.{BindReceiver, BindTransmitter, BindTransceiver, SubmitSm, QuerySm, CancelSm, Unbind, EnquireLink}
use Rattle.smpp_pdu.specs.declared.body.Body.TheVariants.{GenericNack, BindReceiverResp, BindTransmitterResp, BindTransceiverResp, SubmitSmResp, DeliverSmResp}
use Rattle.smpp_pdu.specs.declared.body.Body.TheVariants.{QuerySmResp, CancelSmResp, UnbindResp, EnquireLinkResp}
use Rattle.smpp_pdu.specs.declared.header.Header.{Header}
use Rattle.smpp_pdu.specs.declared.pdu.Pdu.{Pdu}
use Rattle.smpp_pdu.specs.Commands.{command_of}
use Rattle.smpp_pdu.specs.Statuses.{status_number}
use Rattle.smpp_pdu.specs.Tlvs.{no_tlvs, tlv_octets}
use Rattle.smpp_pdu.specs.BodyGrammar.{bind_resp_octets}
use Rattle.smpp_pdu.specs.PduGrammar.{pdu_octets}
use Rattle.smpp_pdu.specs.PduReading.{pdu_at}
use Rattle.smpp_pdu.specs.Writing.{written}
use Rattle.smpp_session.specs.declared.account.Account.{Account}
use Rattle.smpp_session.specs.declared.account.Login.{Login}
use Rattle.smpp_session.specs.declared.account.Login.TheVariants.{Known, UnknownName, WrongPassword, Full}
use Rattle.smpp_session.specs.declared.action.Action.{Action}
use Rattle.smpp_session.specs.declared.action.Action.TheVariants.{Send, Bound, Submit, Query, Cancel, DeliverAnswered, BindRefused, Unbound}
use Rattle.smpp_session.specs.declared.action.BindKind.{BindKind}
use Rattle.smpp_session.specs.declared.action.BindKind.TheVariants.{Transmitter, Receiver, Transceiver}
use Rattle.smpp_session.specs.declared.conversation.SessionState.{SessionState}
use Rattle.smpp_session.specs.declared.conversation.SessionState.TheVariants.{Opened, BoundTx, BoundRx, BoundTrx, Unbinding, Finishing, Broken, Closed}
use Rattle.smpp_session.specs.declared.conversation.Conversation.{Conversation}
use Rattle.smpp_session.specs.declared.table.Judgement.{Judgement}
use Rattle.smpp_session.specs.declared.table.Judgement.TheVariants.{Read, Refused, Ignored}
use Rattle.smpp_session.specs.declared.turn.SessionStep.{SessionStep}
use Rattle.smpp_session.specs.Logins.{admitted, login}
use Rattle.smpp_session.specs.Stream.{header_at}
use Rattle.smpp_session.specs.Windows.{is_among, without}

-- ---- the table

-- a bind is for an open session alone
abbrev pub to_bind : SessionState → Judgement
to_bind Opened = Read
to_bind Finishing = Refused ESME_RINVBNDSTS
to_bind state = Refused ESME_RALYBND

-- Messages are submitted by transmitters and transceivers. No request is taken in once either side has sent unbind.
abbrev pub to_submit : SessionState → Judgement
to_submit BoundTx = Read
to_submit BoundTrx = Read
to_submit state = Refused ESME_RINVBNDSTS

abbrev pub to_unbind : SessionState → Judgement
to_unbind Opened = Refused ESME_RINVBNDSTS
to_unbind Finishing = Refused ESME_RINVBNDSTS
to_unbind state = Read

-- deliver_sm went to receivers and transceivers, and are still answered where the centre has sent unbind
abbrev pub to_answer : SessionState → Judgement
to_answer BoundRx = Read
to_answer BoundTrx = Read
to_answer Unbinding = Read
to_answer state = Ignored

-- unbind_resp answers the centre's own unbind
abbrev pub to_leave : SessionState → Judgement
to_leave Unbinding = Read
to_leave state = Ignored

-- What becomes of a command, by the state alone. The centre takes no deliver_sm; other responses are ignored.
abbrev pub judged : CommandId → SessionState → Judgement
judged BindReceiverId state = to_bind state
judged BindTransmitterId state = to_bind state
judged BindTransceiverId state = to_bind state
judged SubmitSmId state = to_submit state
judged QuerySmId state = to_submit state
judged CancelSmId state = to_submit state
judged UnbindId state = to_unbind state
judged EnquireLinkId state = Read
judged DeliverSmId state = Refused ESME_RINVCMDID
judged DeliverSmRespId state = to_answer state
judged GenericNackId state = to_answer state
judged UnbindRespId state = to_leave state
judged command state = Ignored

-- the status of a body that can't be read
abbrev pub status_of_fault : PduFault → CommandStatus
status_of_fault Truncated = ESME_RINVCMDLEN
status_of_fault BadLength = ESME_RINVCMDLEN
status_of_fault UnknownCommand = ESME_RINVCMDID
status_of_fault NoTerminator = ESME_RINVPARLEN
status_of_fault FieldTooLong = ESME_RINVPARLEN
status_of_fault ShortMessageTooLong = ESME_RINVMSGLEN
status_of_fault BadTlv = ESME_RINVOPTPARSTREAM

-- What becomes of a command whose body can't be read: a response is ignored.
abbrev pub judged_fault : CommandId → PduFault → Judgement
judged_fault DeliverSmRespId fault = Ignored
judged_fault GenericNackId fault = Ignored
judged_fault UnbindRespId fault = Ignored
judged_fault command fault = Refused (status_of_fault fault)

-- ---- answers

-- the answer to a command, without a body
abbrev pub refusal : CommandId → Body
refusal BindReceiverId = BindReceiverResp None
refusal BindTransmitterId = BindTransmitterResp None
refusal BindTransceiverId = BindTransceiverResp None
refusal SubmitSmId = SubmitSmResp None
refusal QuerySmId = QuerySmResp None
refusal CancelSmId = CancelSmResp
refusal UnbindId = UnbindResp
refusal EnquireLinkId = EnquireLinkResp
refusal command = GenericNack

abbrev pub with_bind_resp : BindKind → BindResp → Body
with_bind_resp Transmitter body = BindTransmitterResp (Some body)
with_bind_resp Receiver body = BindReceiverResp (Some body)
with_bind_resp Transceiver body = BindTransceiverResp (Some body)

abbrev pub without_bind_resp : BindKind → Body
without_bind_resp Transmitter = BindTransmitterResp None
without_bind_resp Receiver = BindReceiverResp None
without_bind_resp Transceiver = BindTransceiverResp None

abbrev pub bound_as : BindKind → SessionState
bound_as Transmitter = BoundTx
bound_as Receiver = BoundRx
bound_as Transceiver = BoundTrx

-- the centre names itself
abbrev pub centre_name : BindResp
centre_name = record { system_id = codes "smsc"; tlvs = no_tlvs }

-- The version of SMPP from which on an application takes optional parameters, and which the centre has (SMPP v3.4 5.2.4).
abbrev pub takes_parameters : ℕ → Bool
takes_parameters version = nat_le 0x34 version

-- sc_interface_version, for an application that takes parameters (SMPP v3.4 5.3.2.25)
abbrev pub version_parameter : ℕ → List ℕ
version_parameter version = if takes_parameters version then tlv_octets ((0x0210, 0x34 ∷ []) ∷ []) else []

-- a PDU with that status, under that sequence number
abbrev pub response : Body → CommandStatus → ℕ → Pdu
response body status number = record { command_status = status_number status; sequence_number = number; body = body }

-- the answer to a bind of that version
unfoldable pub accepting_bind : BindKind → ℕ → ℕ → List ℕ
accepting_bind kind version number =
    pdu_octets (response (with_bind_resp kind centre_name) ESME_ROK number) (bind_resp_octets centre_name (version_parameter version))

-- the last octet of the response's command_id, and how many octets it has
abbrev pub resp_octet : BindKind → ℕ
resp_octet Receiver = 0x01
resp_octet Transmitter = 0x02
resp_octet Transceiver = 0x09

abbrev pub resp_length : ℕ → ℕ
resp_length version = if takes_parameters version then 26 else 21

-- ---- the end

-- the sequence number of the centre's own unbind
abbrev pub unbind_number : ℕ
unbind_number = 0x7FFFFFFE

abbrev pub unbind_resp : ℕ → List ℕ
unbind_resp number = written (response UnbindResp ESME_ROK number)

-- A closed session waits for no answer and owes none.
abbrev pub closed_conversation : Conversation → Conversation
closed_conversation conversation =
    record conversation { state = Closed; unanswered = []; owed = []; unbind = None; interface_version = 0 }

-- The requests that were taken are still answered, and then the unbind of that number, if there is one.
abbrev pub finishing_conversation : Option ℕ → Conversation → Conversation
finishing_conversation unbind conversation = record conversation { state = Finishing; unanswered = []; unbind = unbind }

-- The requests that were taken are still answered. No octet is taken in any more.
abbrev pub broken_conversation : Conversation → Conversation
broken_conversation conversation = record conversation { state = Broken; unanswered = [] }

-- A session that is to end does so once it owes no answer.
abbrev pub has_settled : SessionState → List ℕ → Bool
has_settled Finishing [] = true
has_settled Broken [] = true
has_settled state owed = false

abbrev pub unbind_resp_to : Option ℕ → List ℕ
unbind_resp_to None = []
unbind_resp_to (Some number) = unbind_resp number

-- ---- stages: what a session is and what it has given so far

abbrev pub given : Action → SessionStep → SessionStep
given action turn = record { conversation = turn.conversation; actions = turn.actions ++ action ∷ [] }

abbrev pub in_conversation : Conversation → SessionStep → SessionStep
in_conversation conversation turn = record { conversation = conversation; actions = turn.actions }

unfoldable pub sent : Body → CommandStatus → ℕ → SessionStep → SessionStep
sent body status number turn = given (Send (written (response body status number))) turn

abbrev pub closed : SessionStep → SessionStep
closed turn = in_conversation (closed_conversation turn.conversation) turn

-- bound so, with that version of SMPP
abbrev pub bound_turn : BindKind → ℕ → SessionStep → SessionStep
bound_turn kind version turn = in_conversation (record turn.conversation { state = bound_as kind; interface_version = version }) turn

-- a bind that is refused: the answer first, then the word to the owner, with the name that the bind gives
abbrev pub bind_refused : Body → CommandStatus → ℕ → List ℕ → SessionStep → SessionStep
bind_refused body status number name turn = given (BindRefused status name) (sent body status number turn)

-- a bind: the answer first, then the word to the owner
abbrev pub logged_in : BindKind → ℕ → Bind → Login → SessionStep → SessionStep
logged_in kind number bind (Known place) turn =
    bound_turn kind bind.interface_version (given (Bound place kind) (given (Send (accepting_bind kind bind.interface_version number)) turn))
logged_in kind number bind UnknownName turn = bind_refused (without_bind_resp kind) ESME_RINVSYSID number bind.system_id turn
logged_in kind number bind WrongPassword turn = bind_refused (without_bind_resp kind) ESME_RINVPASWD number bind.system_id turn
logged_in kind number bind Full turn = bind_refused (without_bind_resp kind) ESME_RBINDFAIL number bind.system_id turn

abbrev pub bind_taken : List Account → BindKind → ℕ → Bind → SessionStep → SessionStep
bind_taken accounts kind number bind turn =
    logged_in kind number bind (admitted turn.conversation.full (login 0 bind.system_id bind.password accounts)) turn

-- A request is passed up, and is owed its answer.
abbrev pub passed_up : Action → ℕ → SessionStep → SessionStep
passed_up action number turn =
    record { conversation = record turn.conversation { owed = turn.conversation.owed ++ number ∷ [] }; actions = turn.actions ++ action ∷ [] }

-- An unbind, while these requests have no answer. Its own answer follows theirs, so it is sent at once where there are none.
abbrev pub unbound_by : List ℕ → ℕ → SessionStep → SessionStep
unbound_by [] number turn = closed (given Unbound (sent UnbindResp ESME_ROK number turn))
unbound_by (request ∷ requests) number turn =
    in_conversation (finishing_conversation (Some number) turn.conversation) (given Unbound turn)

abbrev pub unbound : ℕ → SessionStep → SessionStep
unbound number turn = unbound_by turn.conversation.owed number turn

-- The centre's own unbind is answered, while these requests have no answer.
abbrev pub left_by : List ℕ → SessionStep → SessionStep
left_by [] turn = closed (given Unbound turn)
left_by (request ∷ requests) turn = in_conversation (finishing_conversation None turn.conversation) (given Unbound turn)

-- an unbind_resp; under another number than that of the centre's unbind it answers nothing
abbrev pub left : ℕ → SessionStep → SessionStep
left number turn = if number == unbind_number then left_by turn.conversation.owed turn else turn

-- the answer to a deliver_sm, if it waits for one
abbrev pub delivered : ℕ → Bool → SessionStep → SessionStep
delivered number accepted turn =
    if is_among number turn.conversation.unanswered
    then record {
      conversation = record turn.conversation { unanswered = without number turn.conversation.unanswered };
      actions = turn.actions ++ DeliverAnswered number accepted ∷ [];
    }
    else turn

-- the levels of priority are 0 to 3 (SMPP v3.4 5.2.14); a greater flag is as 3
abbrev pub priority_of : ℕ → ℕ
priority_of flag = if nat_lt flag 3 then flag else 3

-- ---- one PDU

-- a PDU that can be read, in a state that takes its command; requests are passed up as they arrived
abbrev pub taken : List Account → List ℕ → ℕ → Pdu → Body → SessionStep → SessionStep
taken accounts octets number pdu (BindTransmitter bind) turn = bind_taken accounts Transmitter number bind turn
taken accounts octets number pdu (BindReceiver bind) turn = bind_taken accounts Receiver number bind turn
taken accounts octets number pdu (BindTransceiver bind) turn = bind_taken accounts Transceiver number bind turn
taken accounts octets number pdu (SubmitSm message) turn = passed_up (Submit octets (priority_of message.priority_flag)) number turn
taken accounts octets number pdu (QuerySm query) turn = passed_up (Query octets) number turn
taken accounts octets number pdu (CancelSm cancel) turn = passed_up (Cancel octets) number turn
taken accounts octets number pdu Unbind turn = unbound number turn
taken accounts octets number pdu UnbindResp turn = left number turn
taken accounts octets number pdu EnquireLink turn = sent EnquireLinkResp ESME_ROK number turn
taken accounts octets number pdu (DeliverSmResp body) turn = delivered number (pdu.command_status == 0) turn
taken accounts octets number pdu GenericNack turn = delivered number false turn
taken accounts octets number pdu body turn = turn

-- the system_id of a bind; none where it can't be read
abbrev pub name_in : Body → List ℕ
name_in (BindTransmitter bind) = bind.system_id
name_in (BindReceiver bind) = bind.system_id
name_in (BindTransceiver bind) = bind.system_id
name_in body = []

abbrev pub name_of : Result Pdu PduFault → List ℕ
name_of (Ok pdu) = name_in pdu.body
name_of (Err fault) = []

-- what a bind binds as; nothing of another command
abbrev pub kind_of_command : CommandId → Option BindKind
kind_of_command BindReceiverId = Some Receiver
kind_of_command BindTransmitterId = Some Transmitter
kind_of_command BindTransceiverId = Some Transceiver
kind_of_command command = None

abbrev pub refused_by : Option BindKind → CommandId → CommandStatus → ℕ → List ℕ → SessionStep → SessionStep
refused_by (Some kind) command status number name turn = bind_refused (without_bind_resp kind) status number name turn
refused_by None command status number name turn = sent (refusal command) status number turn

-- a command is refused; of a bind the owner learns so
abbrev pub refused_as : CommandId → CommandStatus → ℕ → List ℕ → SessionStep → SessionStep
refused_as command status number name turn = refused_by (kind_of_command command) command status number name turn

abbrev pub refused : List ℕ → CommandId → ℕ → Judgement → SessionStep → SessionStep
refused octets command number (Refused status) turn = refused_as command status number (name_of (pdu_at octets)) turn
refused octets command number Ignored turn = turn
refused octets command number Read turn = turn

abbrev pub read : List Account → List ℕ → CommandId → ℕ → Result Pdu PduFault → SessionStep → SessionStep
read accounts octets command number (Ok pdu) turn = taken accounts octets number pdu pdu.body turn
read accounts octets command number (Err fault) turn = refused octets command number (judged_fault command fault) turn

abbrev pub judging : List Account → List ℕ → CommandId → ℕ → Judgement → SessionStep → SessionStep
judging accounts octets command number Read turn = read accounts octets command number (pdu_at octets) turn
judging accounts octets command number (Refused status) turn = refused octets command number (Refused status) turn
judging accounts octets command number Ignored turn = turn

-- a request of an unknown command is refused; a response, whose command_id has bit 31 set, is ignored
abbrev pub by_command : List Account → List ℕ → Header → Option CommandId → SessionStep → SessionStep
by_command accounts octets header (Some command) turn =
    judging accounts octets command header.sequence_number (judged command turn.conversation.state) turn
by_command accounts octets header None turn =
    if nat_lt header.command_id 0x80000000 then sent GenericNack ESME_RINVCMDID header.sequence_number turn else turn

-- The answer to one PDU. The sequence number is that of the PDU; the state is judged before the body is looked at.
unfoldable pub treated : List Account → List ℕ → SessionStep → SessionStep
treated accounts octets turn = by_command accounts octets (header_at octets) (command_of (header_at octets).command_id) turn

-- The octets are no PDUs any more, while these requests have no answer.
abbrev pub broken_by : List ℕ → SessionStep → SessionStep
broken_by [] turn = closed turn
broken_by (request ∷ requests) turn = in_conversation (broken_conversation turn.conversation) turn

abbrev pub broken : SessionStep → SessionStep
broken turn = broken_by turn.conversation.owed turn

-- The answer to a header that states no good length. The session is at its end once it owes no answer.
unfoldable pub bad_length : List ℕ → SessionStep → SessionStep
bad_length octets turn = broken (sent GenericNack ESME_RINVCMDLEN (header_at octets).sequence_number turn)

-- A session as its owner sees it, and its calls.
use Rattle.std.specs.Prelude.{◌≡◌, ℕ, ◌+◌, ◌≤◌, List, [], ◌∷◌, ◌++◌, length, take, Bool, ◌&&◌, not, Option, Some, None, nat_lt, if◌then◌else◌}
use Rattle.smpp_pdu.specs.declared.status.CommandStatus.TheVariants.{ESME_ROK}
use Rattle.smpp_pdu.specs.declared.body.Body.TheVariants.{DeliverSm, Unbind}
use Rattle.smpp_pdu.specs.declared.message.Message.{Message}
use Rattle.smpp_pdu.specs.declared.pdu.Pdu.{Pdu}
use Rattle.smpp_pdu.specs.BodyGrammar.{IsMessageValue}
use Rattle.smpp_pdu.specs.Tlvs.{no_tlvs}
use Rattle.smpp_pdu.specs.Writing.{written, written_message}
use Rattle.smpp_session.specs.declared.account.Account.{Account}
use Rattle.smpp_session.specs.declared.action.Action.{Action}
use Rattle.smpp_session.specs.declared.fault.DeliverFault.{DeliverFault}
use Rattle.smpp_session.specs.declared.fault.DeliverFault.TheVariants.{WindowFull, NotBound, NoMemory}
use Rattle.smpp_session.specs.declared.conversation.SessionState.{SessionState}
use Rattle.smpp_session.specs.declared.conversation.SessionState.TheVariants.{Opened, BoundRx, BoundTrx, Unbinding}
use Rattle.smpp_session.specs.declared.conversation.Conversation.{Conversation}
use Rattle.smpp_session.specs.declared.turn.SessionStep.{SessionStep}
use Rattle.smpp_pdu.specs.SequenceNumbers.{number_after}
use Rattle.smpp_session.specs.Windows.{window, free_number}
use Rattle.smpp_session.specs.SessionTable.{response, closed_conversation, takes_parameters, unbind_number}
use Rattle.smpp_session.specs.Answers.{after_answer, is_last}
use Rattle.smpp_session.specs.Bindings.{is_bound, is_ending}
use Rattle.smpp_session.specs.Logins.{none_full}
use Rattle.smpp_session.specs.SessionRun.{StreamProgress, stream}

-- Who may bind, what the session remembers, and the octets that aren't treated yet.
pub record SessionView : Type 0 where
  pub accounts : List Account
  pub conversation : Conversation
  pub buffered : List ℕ

-- ---- new

abbrev pub opened_conversation : Conversation
opened_conversation =
    record { state = Opened; unanswered = []; next_number = 1; owed = []; unbind = None; interface_version = 0; full = none_full }

abbrev pub opened : List Account → SessionView
opened accounts = record { accounts = accounts; conversation = opened_conversation; buffered = [] }

-- ---- which accounts are full

-- those are full from now on
abbrev pub with_full : List Bool → SessionView → SessionView
with_full full session =
    record { accounts = session.accounts; conversation = record session.conversation { full = full }; buffered = session.buffered }

-- ---- feed

abbrev pub turn_of : SessionView → SessionStep
turn_of session = record { conversation = session.conversation; actions = [] }

abbrev pub after_stream : SessionView → StreamProgress → SessionView × List Action
after_stream session progress =
    (record { accounts = session.accounts; conversation = progress.0.conversation; buffered = progress.1 }, progress.0.actions)

-- the session with octets that arrived, and with the first of its octets alone
abbrev pub with_more : List ℕ → SessionView → SessionView
with_more octets session = record { accounts = session.accounts; conversation = session.conversation; buffered = session.buffered ++ octets }

abbrev pub with_first : ℕ → SessionView → SessionView
with_first count session = record { accounts = session.accounts; conversation = session.conversation; buffered = take count session.buffered }

-- its octets one after the other
abbrev pub treated_input : SessionView → SessionView × List Action
treated_input session = after_stream session (stream session.accounts (turn_of session, []) session.buffered)

-- The octets that weren't treated yet and those that arrive now, one after the other.
abbrev pub fed : SessionView → List ℕ → SessionView × List Action
fed session octets = treated_input (with_more octets session)

-- ---- deliver

-- A deliver_sm within its limits.
pub record IsDeliverable (message : Message) : Type 0 where
  pub fields : IsMessageValue message
  pub short : 16 + length (written_message message) ≤ 65536

-- Only receivers and transceivers take a deliver_sm; so many may wait for their answers.
abbrev pub if_room : Conversation → Option DeliverFault
if_room conversation = if nat_lt (length conversation.unanswered) window then None else Some WindowFull

abbrev pub fault_in : SessionState → Conversation → Option DeliverFault
fault_in BoundRx conversation = if_room conversation
fault_in BoundTrx conversation = if_room conversation
fault_in state conversation = Some NotBound

abbrev pub delivery_fault : Conversation → Option DeliverFault
delivery_fault conversation = fault_in conversation.state conversation

-- a refusal is the one that the session's state says, and want of memory where it says none
abbrev pub IsRefused : Option DeliverFault → DeliverFault → Type 0
IsRefused (Some fault) error = error ≡ fault
IsRefused None error = error ≡ NoMemory

-- a message without parameters for an application of an earlier version (SMPP v3.4 5.2.4)
abbrev pub for_version : ℕ → Message → Message
for_version version message = if takes_parameters version then message else record message { tlvs = no_tlvs }

abbrev pub deliver_pdu : ℕ → Message → Pdu
deliver_pdu number message = response (DeliverSm message) ESME_ROK number

abbrev pub number_to_send : Conversation → ℕ
number_to_send conversation = free_number conversation.next_number conversation.unanswered

-- the deliver_sm of that number waits for its answer
abbrev pub awaiting_under : ℕ → Conversation → Conversation
awaiting_under number conversation =
    record conversation { unanswered = conversation.unanswered ++ number ∷ []; next_number = number_after number }

-- one more waits for its answer
abbrev pub awaiting : Conversation → Conversation
awaiting conversation = awaiting_under (number_to_send conversation) conversation

abbrev pub after_delivery : SessionView → SessionView
after_delivery session = record { accounts = session.accounts; conversation = awaiting session.conversation; buffered = session.buffered }

-- ---- answer

abbrev pub after_answered : ℕ → SessionView → SessionView
after_answered number session = record {
  accounts = session.accounts;
  conversation = after_answer number session.conversation;
  buffered = if is_last number session.conversation then [] else session.buffered;
}

-- ---- unbind

-- An unbind goes out where an account is bound and none was sent.
abbrev pub may_unbind : SessionState → Bool
may_unbind state = is_bound state && not (is_ending state)

abbrev pub unbind_octets : List ℕ
unbind_octets = written (response Unbind ESME_ROK unbind_number)

abbrev pub unbinding : SessionState → Option (List ℕ)
unbinding state = if may_unbind state then Some unbind_octets else None

abbrev pub unbinding_conversation : Conversation → Conversation
unbinding_conversation conversation = if may_unbind conversation.state then record conversation { state = Unbinding } else conversation

abbrev pub after_unbind : SessionView → SessionView
after_unbind session =
    record { accounts = session.accounts; conversation = unbinding_conversation session.conversation; buffered = session.buffered }

-- ---- close

abbrev pub after_close : SessionView → SessionView
after_close session = record { accounts = session.accounts; conversation = closed_conversation session.conversation; buffered = [] }

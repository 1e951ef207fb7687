-- What a session owes over a list of calls: the requests that were passed up and have no answer.
use Rattle.std.specs.Prelude.{◌≡◌, ℕ, List, [], ◌∷◌, ◌++◌, length, nat_lt, Bool, true, false, if◌then◌else◌}
use Rattle.std.specs.List.{AllByRecursion}
use Rattle.smpp_pdu.specs.Writing.{written}
use Rattle.smpp_pdu.specs.declared.command.CommandId.{CommandId}
use Rattle.smpp_pdu.specs.declared.command.CommandId.TheVariants.{SubmitSm, QuerySm, CancelSm}
use Rattle.smpp_session.specs.declared.conversation.SessionState.{SessionState}
use Rattle.smpp_session.specs.declared.conversation.SessionState.TheVariants.{Unbinding, Finishing}
use Rattle.smpp_session.specs.declared.action.Action.{Action}
use Rattle.smpp_session.specs.declared.action.Action.TheVariants.{Send, Submit, Query, Cancel}
use Rattle.smpp_session.specs.declared.answer.Answer.{Answer}
use Rattle.smpp_session.specs.declared.calling.Call.{Call}
use Rattle.smpp_session.specs.declared.calling.Call.TheVariants.{Feed, Answer as AnswerCall, Close}
use Rattle.smpp_session.specs.Answers.{answer_pdu}
use Rattle.smpp_session.specs.Calls.{called}
use Rattle.smpp_session.specs.Sessions.{SessionView}
use Rattle.smpp_session.specs.Stream.{header_at}
use Rattle.smpp_session.specs.Windows.{without}

-- ---- requests that are passed up

-- the sequence number of octets that have a header
abbrev pub numbers_in : List ℕ → List ℕ
numbers_in octets = if nat_lt (length octets) 16 then [] else (header_at octets).sequence_number ∷ []

-- the sequence numbers of the requests among actions, in order
abbrev pub numbers_passed : List Action → List ℕ
numbers_passed [] = []
numbers_passed (Submit octets priority ∷ actions) = numbers_in octets ++ numbers_passed actions
numbers_passed (Query octets ∷ actions) = numbers_in octets ++ numbers_passed actions
numbers_passed (Cancel octets ∷ actions) = numbers_in octets ++ numbers_passed actions
numbers_passed (action ∷ actions) = numbers_passed actions

-- those that are owed behind a call
abbrev pub owed_after : List ℕ → SessionView → Call → List ℕ
owed_after owed session (Feed octets) = owed ++ numbers_passed (called session (Feed octets)).1
owed_after owed session (AnswerCall number answer) = without number owed
owed_after owed session call = owed

-- those that are owed behind a list of calls
abbrev pub left_unanswered : List ℕ → SessionView → List Call → List ℕ
left_unanswered owed session [] = owed
left_unanswered owed session (call ∷ calls) = left_unanswered (owed_after owed session call) (called session call).0 calls

-- no call says that the connection has ended
abbrev pub is_close : Call → Bool
is_close Close = true
is_close call = false

abbrev pub IsConnected : List Call → Type 0
IsConnected calls = AllByRecursion (λ call. is_close call ≡ false) calls

-- ---- what is read behind an unbind

-- the requests that are passed up
abbrev pub IsRequest : CommandId → Type 0
IsRequest SubmitSm = Unit {0}
IsRequest QuerySm = Unit {0}
IsRequest CancelSm = Unit {0}
IsRequest command = ⊥

-- either side has sent unbind, and PDUs are still read
abbrev pub IsUnbinding : SessionState → Type 0
IsUnbinding Unbinding = Unit {0}
IsUnbinding Finishing = Unit {0}
IsUnbinding state = ⊥

-- ---- the answers to those that are owed

-- a sequence number and the answer under it
abbrev pub Reply : Type 0
Reply = ℕ × Answer

abbrev pub call_of : Reply → Call
call_of reply = AnswerCall reply.0 reply.1

abbrev pub number_in : Reply → ℕ
number_in reply = reply.0

abbrev pub replies_written : List Reply → List ℕ
replies_written [] = []
replies_written (reply ∷ replies) = written (answer_pdu reply.0 reply.1) ++ replies_written replies

-- the octets that actions send
abbrev pub octets_sent : List Action → List ℕ
octets_sent [] = []
octets_sent (Send octets ∷ actions) = octets ++ octets_sent actions
octets_sent (action ∷ actions) = octets_sent actions

-- A list of calls of a session.
use Rattle.std.specs.Prelude.{ℕ, List, [], ◌∷◌, ◌++◌, Option, Some, None}
use Rattle.smpp_pdu.specs.declared.message.Message.{Message}
use Rattle.smpp_pdu.specs.Writing.{written}
use Rattle.smpp_session.specs.declared.action.Action.{Action}
use Rattle.smpp_session.specs.declared.action.Action.TheVariants.{Send}
use Rattle.smpp_session.specs.declared.fault.DeliverFault.{DeliverFault}
use Rattle.smpp_session.specs.declared.calling.Call.{Call}
use Rattle.smpp_session.specs.declared.calling.Call.TheVariants.{Full, Feed, Answer, Deliver, Unbind, Close}
use Rattle.smpp_session.specs.Answers.{answered, IsAnswer}
use Rattle.smpp_session.specs.Sessions.{SessionView, fed, IsDeliverable, delivery_fault, deliver_pdu, for_version, number_to_send, after_answered}
use Rattle.smpp_session.specs.Sessions.{after_delivery, after_unbind, after_close, unbinding}
use Rattle.smpp_session.specs.Sessions.{with_full}

-- the conditions of the calls
abbrev pub IsCall : Call → Type 0
IsCall (Full full) = Unit {0}
IsCall (Feed octets) = Unit {0}
IsCall (Answer number answer) = IsAnswer answer
IsCall (Deliver message) = IsDeliverable message
IsCall Unbind = Unit {0}
IsCall Close = Unit {0}

abbrev pub sending : Option (List ℕ) → List Action
sending None = []
sending (Some octets) = Send octets ∷ []

-- a refused deliver_sm gives nothing and changes nothing
abbrev pub delivering : SessionView → Message → Option DeliverFault → SessionView × List Action
delivering session message None = (
  after_delivery session,
  Send (written (deliver_pdu (number_to_send session.conversation) (for_version session.conversation.interface_version message))) ∷ [],
)
delivering session message (Some fault) = (session, [])

-- the session after a call, and the actions of the call
abbrev pub called : SessionView → Call → SessionView × List Action
called session (Full full) = (with_full full session, [])
called session (Feed octets) = fed session octets
called session (Answer number answer) = (after_answered number session, sending (answered session.conversation number answer))
called session (Deliver message) = delivering session message (delivery_fault session.conversation)
called session Unbind = (after_unbind session, sending (unbinding session.conversation.state))
called session Close = (after_close session, [])

abbrev pub and_then : SessionView × List Action → SessionView × List Action → SessionView × List Action
and_then before after = (after.0, before.1 ++ after.1)

-- calls one after the other, with the actions of all
abbrev pub ran : SessionView × List Action → List Call → SessionView × List Action
ran before [] = before
ran before (call ∷ calls) = ran (and_then before (called before.0 call)) calls

-- ---- the same octets, one by one

abbrev pub singles : List ℕ → List Call
singles [] = []
singles (octet ∷ octets) = Feed (octet ∷ []) ∷ singles octets

abbrev pub each_octet : List Call → List Call
each_octet [] = []
each_octet (Full full ∷ calls) = Full full ∷ each_octet calls
each_octet (Feed octets ∷ calls) = singles octets ++ each_octet calls
each_octet (Answer number answer ∷ calls) = Answer number answer ∷ each_octet calls
each_octet (Deliver message ∷ calls) = Deliver message ∷ each_octet calls
each_octet (Unbind ∷ calls) = Unbind ∷ each_octet calls
each_octet (Close ∷ calls) = Close ∷ each_octet calls

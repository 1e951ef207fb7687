-- What a session promises over any list of calls.
use Rattle.std.specs.Prelude.{◌≡◌, ℕ, List, Bool, false, Ok, if◌then◌else◌}
use Rattle.smpp_pdu.specs.declared.body.Body.TheVariants.{SubmitSm as SubmitSmBody, QuerySm as QuerySmBody, CancelSm as CancelSmBody}
use Rattle.smpp_pdu.specs.declared.message.Message.{Message}
use Rattle.smpp_pdu.specs.declared.query.QuerySm.{QuerySm}
use Rattle.smpp_pdu.specs.declared.cancel.CancelSm.{CancelSm}
use Rattle.smpp_pdu.specs.declared.pdu.Pdu.{Pdu}
use Rattle.smpp_pdu.specs.PduReading.{pdu_at}
use Rattle.smpp_session.specs.declared.action.Action.{Action}
use Rattle.smpp_session.specs.declared.action.Action.TheVariants.{Bound, Submit, Query, Cancel}
use Rattle.smpp_session.specs.SessionTable.{priority_of}
use Rattle.smpp_session.specs.Bindings.{is_bound, bound_behind, is_bind_lost}
use Rattle.smpp_session.specs.Logins.{is_full}
use Rattle.smpp_session.specs.Sessions.{SessionView, fed}

-- The octets of a request that is passed up read as that request (SMPP v3.4 4.4.1, 4.8.1, 4.9.1). The priority of a
-- submit_sm is its own.
abbrev pub ReadsAsItsCommand : Action → Type 0
ReadsAsItsCommand (Submit octets priority) =
    (pdu : Pdu) × (message : Message) × (pdu_at octets ≡ Ok pdu) × (pdu.body ≡ SubmitSmBody message) × (priority ≡ priority_of message.priority_flag)
ReadsAsItsCommand (Query octets) = (pdu : Pdu) × (query : QuerySm) × (pdu_at octets ≡ Ok pdu) × (pdu.body ≡ QuerySmBody query)
ReadsAsItsCommand (Cancel octets) = (pdu : Pdu) × (cancel : CancelSm) × (pdu_at octets ≡ Ok pdu) × (pdu.body ≡ CancelSmBody cancel)
ReadsAsItsCommand action = Unit {0}

-- Whether an account is bound behind octets that were fed, by what was reported to the owner: the actions, and a lost bind.
abbrev pub bound_as_reported : SessionView → List ℕ → Bool
bound_as_reported session octets =
    if is_bind_lost session.conversation.state (fed session octets).1 (fed session octets).0.conversation.state
    then false
    else bound_behind (is_bound session.conversation.state) (fed session octets).1

-- An account that is bound is not among those that are full.
abbrev pub HasRoom : List Bool → Action → Type 0
HasRoom full (Bound place kind) = is_full place full ≡ false
HasRoom full action = Unit {0}

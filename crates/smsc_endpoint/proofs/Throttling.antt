-- Requests that were handed back are answered in their turn; actions are done one after the other.
use Rattle.std.proofs.Common.{◌≡◌, ℕ, ◌<◌, Bool, cond, true, false, List, [], ◌∷◌, ◌++◌, length, Option, Some, None, refl, sym, ap, ◌∙◌, arith}
use Rattle.smpp_pdu.specs.declared.status.CommandStatus.TheVariants.{ESME_RTHROTTLED}
use Rattle.smpp_session.specs.declared.action.Action.{Action}
use Rattle.sms_centre_spec.specs.declared.answer.CentreAnswer.{CentreAnswer}
use Rattle.sms_centre_spec.specs.declared.answer.CentreAnswer.TheVariants.{Refused}
use Rattle.smsc_endpoint.specs.declared.pending.PendingRequest.{PendingRequest}
use Rattle.smsc_endpoint.specs.EsmeView.{EsmeView}
use Rattle.smsc_endpoint.specs.EsmeCalls.{acted_all, acted_next, answered_first, answered_next, answered_one, responding, throttled_first, throttled_next}
use Rattle.smpp_session.specs.Sessions.{SessionView, after_answered}
use Rattle.smsc_endpoint.specs.PendingRequests.{is_throttled_first, left_without}
use Rattle.smsc_endpoint.specs.Responses.{response}

responding_waits : (octets : Option (List ℕ)) (e : EsmeView) → (responding octets e).waiting ≡ e.waiting
responding_waits None e = refl
responding_waits (Some octets) e = refl

pub left_behind : (request : PendingRequest) (requests : List PendingRequest) (answer : CentreAnswer) (e : EsmeView) → (answered_one request requests answer e).waiting ≡ requests
left_behind request requests answer e =
    responding_waits (response e.session.conversation request answer) (record e {
      session = after_answered request.sequence_number e.session;
      waiting = requests;
      with_keeper = left_without request e.with_keeper;
    })

by_first : (requests : List PendingRequest) (e : EsmeView) → is_throttled_first requests ≡ true
    → throttled_next (answered_first requests (Refused ESME_RTHROTTLED) e) ≡ throttled_first requests e
by_first [] e t = absurd cc
by_first (request ∷ requests) e t =
    let after = answered_one request requests (Refused ESME_RTHROTTLED) e in
    ap (λ (rs : List PendingRequest). throttled_first rs after) (left_behind request requests (Refused ESME_RTHROTTLED) e)
    ∙ sym (ap (λ (b : Bool). cond b (throttled_first requests after) e) t)

pub one_throttled : (e : EsmeView) → is_throttled_first e.waiting ≡ true → throttled_next (answered_next (Refused ESME_RTHROTTLED) e) ≡ throttled_next e
one_throttled e t = by_first e.waiting e t

stops : (requests : List PendingRequest) (e : EsmeView) → is_throttled_first requests ≡ false → throttled_first requests e ≡ e
stops [] e f = refl
stops (request ∷ requests) e f = rw f refl

pub none_throttled : (e : EsmeView) → is_throttled_first e.waiting ≡ false → throttled_next e ≡ e
none_throttled e f = stops e.waiting e f

fewer : (requests : List PendingRequest) (answer : CentreAnswer) (e : EsmeView) → is_throttled_first requests ≡ true
    → length (answered_first requests answer e).waiting < length requests
fewer [] answer e t = absurd cc
fewer (request ∷ requests) answer e t = omega (arith, ap (λ (rs : List PendingRequest). length rs) (left_behind request requests answer e))

pub one_fewer : (e : EsmeView) (answer : CentreAnswer) → is_throttled_first e.waiting ≡ true → length (answered_next answer e).waiting < length e.waiting
one_fewer e answer t = fewer e.waiting answer e t

-- the request that waited first has its answer
pub next_answered : (e : EsmeView) (request : PendingRequest) (requests : List PendingRequest) (answer : CentreAnswer) → e.waiting ≡ request ∷ requests
    → answered_one request requests answer (record e { waiting = requests }) ≡ answered_next answer e
next_answered e request requests answer is = sym (ap (λ (rs : List PendingRequest). answered_first rs answer e) is)

-- a request that is counted, and whose answer the session and the octets to send have
pub answered_by : (e : EsmeView) (request : PendingRequest) (answer : CentreAnswer) (d : EsmeView) (session : SessionView) (octets : Option (List ℕ))
    → d ≡ record e { with_keeper = left_without request e.with_keeper } → octets ≡ response d.session.conversation request answer
    → session ≡ after_answered request.sequence_number d.session → responding octets (record d { session = session }) ≡ answered_one request e.waiting answer e
answered_by e request answer d session octets is said after =
    ap (λ (os : Option (List ℕ)). responding os (record d { session = session })) said
    ∙ (ap (λ (s : SessionView). responding (response d.session.conversation request answer) (record d { session = s })) after
    ∙ ap (λ (v : EsmeView). responding (response v.session.conversation request answer) (record v { session = after_answered request.sequence_number v.session })) is)

pub acted_more : (e : EsmeView) (actions : List Action) (action : Action) → acted_all e (actions ++ action ∷ []) ≡ acted_next (acted_all e actions) action
acted_more e [] action = refl
acted_more e (first ∷ actions) action = acted_more (acted_next e first) actions action

-- What a seat's job, or the time, asks of the centre.
use Rattle.std.specs.Prelude.{ℕ, List, Option, Some, None, Result, Ok, Err, nat_lt, if◌then◌else◌}
use Rattle.smpp_pdu.specs.declared.body.Body.{Body}
use Rattle.smpp_pdu.specs.declared.body.Body.TheVariants.{SubmitSm, QuerySm, CancelSm}
use Rattle.smpp_pdu.specs.declared.fault.PduFault.{PduFault}
use Rattle.smpp_pdu.specs.declared.pdu.Pdu.{Pdu}
use Rattle.smpp_pdu.specs.PduReading.{pdu_at}
use Rattle.sms_centre_spec.specs.declared.event.CentreEvent.{CentreEvent}
use Rattle.sms_centre_spec.specs.declared.event.CentreEvent.TheVariants.{Submit as SubmitOf, Query as QueryOf, Cancel as CancelOf, Bound as BoundOf}
use Rattle.sms_centre_spec.specs.declared.event.CentreEvent.TheVariants.{Unbound as UnboundOf, DeliverAnswered as DeliverAnsweredOf, Frame as FrameOf}
use Rattle.sms_centre_spec.specs.declared.event.CentreEvent.TheVariants.{LinkUp as LinkUpOf, LinkDown as LinkDownOf, Ordered as OrderedOf, Tick as TickOf}
use Rattle.sms_centre_spec.specs.CentreEvent.{happened}
use Rattle.sms_centre_spec.specs.Draft.{Core}
use Rattle.sms_centre_spec.specs.declared.answer.CentreAnswer.{CentreAnswer}
use Rattle.sms_centre_spec.specs.declared.jobs.job.Job.{Job}
use Rattle.sms_centre_spec.specs.declared.jobs.job.Job.TheVariants.{Bound, Unbound, Submit, Query, Cancel, DeliverAnswered, LinkUp, LinkDown, Frame}
use Rattle.sms_centre_spec.specs.declared.order.Order.TheVariants.{Retry as RetryOf, Delete as DeleteOf}
use Rattle.sms_keeper.specs.declared.machine.Errand.{Errand}
use Rattle.sms_keeper.specs.declared.machine.Errand.TheVariants.{Forget as ForgetOf, Retry, Delete, Enrol as EnrolOf}
use Rattle.sms_keeper.specs.declared.machine.Stimulus.{Stimulus}
use Rattle.sms_keeper.specs.declared.machine.Stimulus.TheVariants.{Job as JobOf, Tick, Own}
use Rattle.smsc_service.specs.declared.asking.SeatRequest.{SeatRequest}
use Rattle.smsc_service.specs.declared.asking.SeatRequest.TheVariants.{Event, Nothing, Taken, Forget, Enrol}
use Rattle.smsc_service.specs.Numbers.{is_number}
use Rattle.smsc_service.specs.Seats.{Seats, handset_at, seat_of}

-- ---- requests: the PDU that was passed up, if it is the request that it was passed up as

abbrev pub submission : ℕ → Body → SeatRequest
submission account (SubmitSm message) = Event (SubmitOf account message)
submission account other = Nothing

abbrev pub question : ℕ → Body → SeatRequest
question account (QuerySm query) = Event (QueryOf account query)
question account other = Nothing

abbrev pub withdrawal : ℕ → Body → SeatRequest
withdrawal account (CancelSm cancel) = Event (CancelOf account cancel)
withdrawal account other = Nothing

abbrev pub read_as : (Body → SeatRequest) → Result Pdu PduFault → SeatRequest
read_as ask (Ok pdu) = ask pdu.body
read_as ask (Err fault) = Nothing

-- ---- links

-- a handset has one link
abbrev pub link_for : Option ℕ → List ℕ → SeatRequest
link_for (Some seat) handset = Taken
link_for None handset = Event (LinkUpOf handset)

-- what the link of the handset asks, if one is at the seat
abbrev pub of_handset : (List ℕ → CentreEvent) → Option (List ℕ) → SeatRequest
of_handset event None = Nothing
of_handset event (Some handset) = if is_number handset then Event (event handset) else Nothing

-- ---- what is asked

abbrev pub asked : Seats → ℕ → Job → SeatRequest
asked s seat (Bound account receives) = Event (BoundOf seat account receives)
asked s seat Unbound = Event (UnboundOf seat)
asked s seat (Submit account pdu) = read_as (submission account) (pdu_at pdu)
asked s seat (Query account pdu) = read_as (question account) (pdu_at pdu)
asked s seat (Cancel account pdu) = read_as (withdrawal account) (pdu_at pdu)
asked s seat (DeliverAnswered id is_accepted) = Event (DeliverAnsweredOf seat id is_accepted)
asked s seat (LinkUp handset) = if is_number handset then link_for (seat_of handset s.links) handset else Nothing
asked s seat LinkDown = of_handset (λ handset. LinkDownOf handset) (handset_at seat s.links)
asked s seat (Frame octets) = of_handset (λ handset. FrameOf handset octets None) (handset_at seat s.links)

-- what no seat asks
abbrev pub errand_asks : Errand → SeatRequest
errand_asks (ForgetOf before from most) = Forget before from most
errand_asks (Retry id) = Event (OrderedOf RetryOf id)
errand_asks (Delete id) = Event (OrderedOf DeleteOf id)
errand_asks (EnrolOf account) = Enrol account

-- a hub has 32 seats
abbrev pub asked_by : Seats → Stimulus Job → SeatRequest
asked_by s (JobOf seat job) = if nat_lt seat 32 then asked s seat job else Nothing
asked_by s (Tick now) = Event (TickOf now)
asked_by s (Own errand) = errand_asks errand

-- where it is an event, it is one of these
abbrev pub IfEvent : (CentreEvent → Type 0) → SeatRequest → Type 0
IfEvent Is (Event event) = Is event
IfEvent Is Nothing = Unit {0}
IfEvent Is Taken = Unit {0}
IfEvent Is (Forget before from most) = Unit {0}
IfEvent Is (Enrol account) = Unit {0}

-- its answer, where it is an event that happens
abbrev pub answer_of : SeatRequest → Core → Option CentreAnswer
answer_of (Event event) c = (happened event c).answer
answer_of Nothing c = None
answer_of Taken c = None
answer_of (Forget before from most) c = None
answer_of (Enrol account) c = None

-- where it is to forget, the claim of what is looked at
abbrev pub IfForget : (ℕ → ℕ → ℕ → Type 0) → SeatRequest → Type 0
IfForget Is (Event event) = Unit {0}
IfForget Is Nothing = Unit {0}
IfForget Is Taken = Unit {0}
IfForget Is (Forget before from most) = Is before from most
IfForget Is (Enrol account) = Unit {0}

-- where nothing of the centre can change by it, the claim
abbrev pub UnlessEvent : SeatRequest → Type 0 → Type 0
UnlessEvent (Event event) claim = Unit {0}
UnlessEvent Nothing claim = claim
UnlessEvent Taken claim = claim
UnlessEvent (Forget before from most) claim = Unit {0}
UnlessEvent (Enrol account) claim = Unit {0}

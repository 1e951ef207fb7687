-- What applications ask for a message: its state, its end, and what is refused.
use Rattle.std.proofs.Common.{◌≡◌, ◌+◌, [], ◌∷◌, true, false, Some, None, refl}
use Rattle.std.specs.Prelude.{codes}
use Rattle.sms_base.specs.declared.final_state.FinalState.TheVariants.{Deleted}
use Rattle.smpp_pdu.specs.declared.cancel.CancelSm.{CancelSm}
use Rattle.smpp_pdu.specs.declared.status.CommandStatus.TheVariants.{ESME_RCANCELFAIL, ESME_RINVMSGID}
use Rattle.sms_centre_spec.specs.declared.answer.CentreAnswer.TheVariants.{Queried, Cancelled, Refused}
use Rattle.sms_centre_spec.specs.Draft.{Draft, core_of}
use Rattle.sms_centre_spec.specs.CentreEvent.{submit_received, cancel_received, query_received, ticked, answered, bound, unbound}
use Rattle.sms_centre_spec.proofs.Everything.{everything}
use Rattle.sms_centre_spec.proofs.Worked.{t0, handset_a, handset_b, begun, hello_to, cancel_of, query_of, to_number}

abbrev pub one : Draft
one = submit_received 0 (hello_to handset_b) (begun (handset_b ∷ []))

enroute : (query_received 0 (query_of (codes "0000000001")) (core_of one)).answer ≡ Some (Queried 1 None None)
unfolding everything
enroute = refl

short : (query_received 0 (query_of (codes "1")) (core_of one)).answer ≡ Some (Refused ESME_RINVMSGID)
unfolding everything
short = refl

none : (cancel_received 0 (cancel_of []) (core_of one)).answer ≡ Some (Refused ESME_RCANCELFAIL)
unfolding everything
none = refl

other : (cancel_received 0 (cancel_of (codes "0000000002")) (core_of one)).answer ≡ Some (Refused ESME_RINVMSGID)
unfolding everything
other = refl

-- SMPP v3.4 4.9.1: a destination that is given has to be the message's
abbrev pub elsewhere : CancelSm
elsewhere = record (cancel_of (codes "0000000001")) { destination = to_number handset_a }

no_such : (cancel_received 0 elsewhere (core_of one)).answer ≡ Some (Refused ESME_RINVMSGID)
unfolding everything
no_such = refl

there : (cancel_received 0 (record elsewhere { destination = to_number handset_b }) (core_of one)).answer ≡ Some Cancelled
unfolding everything
there = refl

abbrev pub two : Draft
two = cancel_received 0 (cancel_of (codes "0000000001")) (core_of one)

cancelled : two.answer ≡ Some Cancelled
unfolding everything
cancelled = refl

receipt : two.bindings.deliveries ≡ record { session = 1; id = 1 } ∷ []
unfolding everything
receipt = refl

twice : (cancel_received 0 (cancel_of (codes "0000000001")) (core_of two)).answer ≡ Some (Refused ESME_RCANCELFAIL)
unfolding everything
twice = refl

state : (query_received 0 (query_of (codes "0000000001")) (core_of two)).answer ≡ Some (Queried 1 (Some Deleted) (Some t0))
unfolding everything
state = refl

abbrev pub refused : Draft
refused = answered 1 1 false (core_of two)

not_yet : refused.bindings.deliveries ≡ []
unfolding everything
not_yet = refl

early : (ticked (t0 + 59) (core_of refused)).bindings.deliveries ≡ []
unfolding everything
early = refl

again : (ticked (t0 + 60) (core_of refused)).bindings.deliveries ≡ record { session = 1; id = 1 } ∷ []
unfolding everything
again = refl

second_session : (bound 2 0 true (core_of refused)).bindings.deliveries ≡ record { session = 1; id = 1 } ∷ []
unfolding everything
second_session = refl

abbrev pub gone : Draft
gone = unbound 1 (core_of two)

at_bind : (bound 3 0 true (core_of gone)).bindings.deliveries ≡ record { session = 3; id = 1 } ∷ []
unfolding everything
at_bind = refl

transmitter : (ticked (t0 + 60) (core_of (bound 3 0 false (core_of gone)))).bindings.deliveries ≡ []
unfolding everything
transmitter = refl

receiver_later : (ticked (t0 + 60) (core_of (bound 3 0 true (core_of gone)))).bindings.deliveries ≡ []
unfolding everything
receiver_later = refl

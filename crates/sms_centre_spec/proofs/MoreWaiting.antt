-- TP-MMS is told truly at each offer.
use Rattle.std.proofs.Common.{◌≡◌, ◌+◌, [], ◌∷◌, Some, refl}
use Rattle.std.specs.Prelude.{codes}
use Rattle.sms_base.specs.declared.final_state.FinalState.TheVariants.{Delivered, Deleted}
use Rattle.sms_centre_spec.specs.declared.answer.CentreAnswer.TheVariants.{Cancelled}
use Rattle.sms_centre_spec.specs.Draft.{Draft, core_of}
use Rattle.sms_centre_spec.specs.CentreEvent.{submit_received, cancel_received, ticked}
use Rattle.sms_centre_spec.proofs.Everything.{everything}
use Rattle.sms_centre_spec.proofs.Worked.{hex, t0, handset_b, begun, hello_to, comes, cancel_of, sent, states}

abbrev pub one : Draft
one = submit_received 0 (hello_to handset_b) (core_of (submit_received 0 (hello_to handset_b) (core_of (submit_received 0 (hello_to handset_b) (begun (handset_b ∷ []))))))

abbrev pub two : Draft
two = comes handset_b (hex (codes "890106020041020000")) (core_of (comes handset_b (hex (codes "8904")) (core_of one)))

more : sent two ≡ hex (codes "0904") ∷ hex (codes "190124010107914477000900000018200C9144770009001000004220923295850005E8329BFD06") ∷ []
unfolding everything
more = refl

abbrev pub three : Draft
three = cancel_received 0 (cancel_of (codes "0000000003")) (core_of two)

cancelled : three.answer ≡ Some Cancelled
unfolding everything
cancelled = refl

abbrev pub four : Draft
four = ticked (t0 + 40) (core_of (comes handset_b (hex (codes "9904")) (core_of three)))

quiet : sent four ≡ []
unfolding everything
quiet = refl

abbrev pub five : Draft
five = ticked (t0 + 100) (core_of four)

no_more : sent five ≡ hex (codes "290124010107914477000900000018240C9144770009001000004220923295850005E8329BFD06") ∷ []
unfolding everything
no_more = refl

abbrev pub six : Draft
six = comes handset_b (hex (codes "A90106020141020000")) (core_of (comes handset_b (hex (codes "A904")) (core_of five)))

ends : states six ≡ Some Delivered ∷ Some Delivered ∷ Some Deleted ∷ []
unfolding everything
ends = refl

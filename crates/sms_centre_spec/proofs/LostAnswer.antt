-- A lost answer: the part is offered again under its reference, and acknowledged once more.
use Rattle.std.proofs.Common.{◌≡◌, ◌+◌, [], ◌∷◌, Some, refl}
use Rattle.std.specs.Prelude.{codes}
use Rattle.sms_base.specs.declared.final_state.FinalState.TheVariants.{Delivered}
use Rattle.sms_centre_spec.specs.Draft.{Draft, core_of}
use Rattle.sms_centre_spec.specs.CentreEvent.{submit_received, ticked}
use Rattle.sms_centre_spec.proofs.Everything.{everything}
use Rattle.sms_centre_spec.proofs.Worked.{hex, t0, handset_b, begun, hello_to, comes, sent, states}

abbrev pub one : Draft
one = submit_received 0 (hello_to handset_b) (begun (handset_b ∷ []))

abbrev pub two : Draft
two = comes handset_b (hex (codes "8904")) (core_of one)

abbrev pub three : Draft
three = ticked (t0 + 40) (core_of two)

nothing : sent three ≡ []
unfolding everything
nothing = refl

abbrev pub four : Draft
four = ticked (t0 + 100) (core_of three)

again : sent four ≡ hex (codes "190124010007914477000900000018240C9144770009001000004220923295850005E8329BFD06") ∷ []
unfolding everything
again = refl

abbrev pub five : Draft
five = comes handset_b (hex (codes "990106020041020000")) (core_of (comes handset_b (hex (codes "9904")) (core_of four)))

delivered : states five ≡ Some Delivered ∷ []
unfolding everything
delivered = refl

closed : sent five ≡ hex (codes "1904") ∷ []
unfolding everything
closed = refl

-- A restart: a late answer is in no transaction, and the first tick brings the links up and offers the part again.
use Rattle.std.proofs.Common.{◌≡◌, [], ◌∷◌, Some, refl}
use Rattle.std.specs.Prelude.{codes}
use Rattle.sms_base.specs.declared.final_state.FinalState.TheVariants.{Delivered}
use Rattle.sms_centre_spec.specs.Draft.{Core, Draft, core_of}
use Rattle.sms_centre_spec.specs.CentreEvent.{submit_received, ticked, recovered}
use Rattle.sms_centre_spec.proofs.Everything.{everything}
use Rattle.sms_centre_spec.proofs.Worked.{hex, t0, handset_b, begun, session_one, hello_to, comes, sent, states, told}

abbrev pub one : Draft
one = submit_received 0 (hello_to handset_b) (begun (handset_b ∷ []))

abbrev pub two : Core
two = recovered (core_of one).rows (handset_b ∷ []) (session_one ∷ [])

abbrev pub three : Draft
three = comes handset_b (hex (codes "890106020041020000")) (two)

rejected : sent three ≡ hex (codes "091051") ∷ []
unfolding everything
rejected = refl

abbrev pub four : Draft
four = ticked t0 (core_of three)

again : sent four ≡ hex (codes "090124010007914477000900000018240C9144770009001000004220923295850005E8329BFD06") ∷ []
unfolding everything
again = refl

abbrev pub five : Draft
five = comes handset_b (hex (codes "890106020041020000")) (core_of (comes handset_b (hex (codes "8904")) (core_of four)))

delivered : states five ≡ Some Delivered ∷ []
unfolding everything
delivered = refl

told_once : told five ≡ 1 ∷ []
unfolding everything
told_once = refl

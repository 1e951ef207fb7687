-- One message, from an application to a handset and back, and its receipt.
use Rattle.std.proofs.Common.{◌≡◌, [], ◌∷◌, Some, refl}
use Rattle.std.specs.Prelude.{codes}
use Rattle.sms_base.specs.declared.final_state.FinalState.TheVariants.{Delivered}
use Rattle.sms_centre_spec.specs.declared.answer.CentreAnswer.TheVariants.{Submitted}
use Rattle.sms_centre_spec.specs.Draft.{Draft, core_of}
use Rattle.sms_centre_spec.specs.CentreEvent.{submit_received}
use Rattle.sms_centre_spec.proofs.Everything.{everything}
use Rattle.sms_centre_spec.proofs.Worked.{hex, handset_b, begun, hello_to, comes, sent, states}

abbrev pub submitted : Draft
submitted = submit_received 0 (hello_to handset_b) (begun (handset_b ∷ []))

answer : submitted.answer ≡ Some (Submitted 1)
unfolding everything
answer = refl

offered : sent submitted ≡ hex (codes "090124010007914477000900000018240C9144770009001000004220923295850005E8329BFD06") ∷ []
unfolding everything
offered = refl

-- CP-ACK, and RP-ACK
abbrev pub acknowledged : Draft
acknowledged = comes handset_b (hex (codes "890106020041020000")) (core_of (comes handset_b (hex (codes "8904")) (core_of submitted)))

closed : sent acknowledged ≡ hex (codes "0904") ∷ []
unfolding everything
closed = refl

delivered : states acknowledged ≡ Some Delivered ∷ []
unfolding everything
delivered = refl

receipt : acknowledged.bindings.deliveries ≡ record { session = 1; id = 1 } ∷ []
unfolding everything
receipt = refl

-- A message that expires while its answer is on the way stays expired.
use Rattle.std.proofs.Common.{◌≡◌, ◌+◌, [], ◌∷◌, Some, refl}
use Rattle.std.specs.Prelude.{codes}
use Rattle.sms_base.specs.declared.final_state.FinalState.TheVariants.{Expired}
use Rattle.sms_centre_spec.specs.Draft.{Draft, core_of}
use Rattle.sms_centre_spec.specs.CentreEvent.{submit_received, ticked}
use Rattle.sms_receipt.specs.ReceiptText.{receipt_text}
use Rattle.sms_centre_spec.specs.Finals.{final_of}
use Rattle.sms_centre_spec.proofs.Everything.{everything}
use Rattle.sms_centre_spec.proofs.Worked.{hex, t0, handset_b, begun, sm, comes, sent, states, told, row_of}

abbrev pub one : Draft
one = submit_received 0 (sm handset_b 0 0 1 (codes "000000000030000R") (codes "hello") 0) (begun (handset_b ∷ []))

abbrev pub two : Draft
two = comes handset_b (hex (codes "8904")) (core_of one)

abbrev pub three : Draft
three = ticked (t0 + 30) (core_of two)

expired : states three ≡ Some Expired ∷ []
unfolding everything
expired = refl

abbrev pub four : Draft
four = comes handset_b (hex (codes "890106020041020000")) (core_of three)

late : sent four ≡ hex (codes "0904") ∷ []
unfolding everything
late = refl

still : states four ≡ Some Expired ∷ []
unfolding everything
still = refl

told_once : told four ≡ 1 ∷ []
unfolding everything
told_once = refl

text : receipt_text (final_of Expired (t0 + 30) (row_of (core_of four).rows)) ≡ codes "id:0000000001 sub:001 dlvrd:000 submit date:2402292359 done date:2403010000 stat:EXPIRED err:000 text:"
unfolding everything
text = refl

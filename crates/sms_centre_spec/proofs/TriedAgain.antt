-- A temporary cause is tried again after a minute; any other ends the message.
use Rattle.std.proofs.Common.{◌≡◌, ◌+◌, [], ◌∷◌, Some, None, refl}
use Rattle.std.specs.Prelude.{codes}
use Rattle.sms_base.specs.declared.final_state.FinalState.TheVariants.{Undeliverable}
use Rattle.sms_centre_spec.specs.Draft.{Draft, core_of}
use Rattle.sms_centre_spec.specs.CentreEvent.{submit_received, ticked}
use Rattle.sms_receipt.specs.ReceiptText.{receipt_text}
use Rattle.sms_centre_spec.specs.Finals.{final_of}
use Rattle.sms_centre_spec.proofs.Everything.{everything}
use Rattle.sms_centre_spec.proofs.Worked.{hex, t0, handset_b, begun, hello_to, comes, sent, states, told, row_of, attempts_of}

abbrev pub one : Draft
one = comes handset_b (hex (codes "8904")) (core_of (submit_received 0 (hello_to handset_b) (begun (handset_b ∷ []))))

abbrev pub two : Draft
two = comes handset_b (hex (codes "89010404000129")) (core_of one)

closed : sent two ≡ hex (codes "0904") ∷ []
unfolding everything
closed = refl

abbrev pub early : Draft
early = ticked (t0 + 59) (core_of two)

nothing : sent early ≡ []
unfolding everything
nothing = refl

abbrev pub due : Draft
due = ticked (t0 + 60) (core_of early)

again : sent due ≡ hex (codes "190124010007914477000900000018240C9144770009001000004220923295850005E8329BFD06") ∷ []
unfolding everything
again = refl

abbrev pub refused : Draft
refused = comes handset_b (hex (codes "89010404000115")) (core_of one)

ended : states refused ≡ Some Undeliverable ∷ []
unfolding everything
ended = refl

told_once : told refused ≡ 1 ∷ []
unfolding everything
told_once = refl

text : receipt_text (final_of Undeliverable t0 (row_of (core_of refused).rows)) ≡ codes "id:0000000001 sub:001 dlvrd:000 submit date:2402292359 done date:2402292359 stat:UNDELIV err:000 text:"
unfolding everything
text = refl

abbrev pub wrong : Draft
wrong = comes handset_b (hex (codes "890106020141020000")) (core_of one)

counted : attempts_of (core_of wrong).rows ≡ 1 ∷ []
unfolding everything
counted = refl

pending : states wrong ≡ None ∷ []
unfolding everything
pending = refl

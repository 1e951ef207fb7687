-- The text of a receipt and the length of its deliver_sm; statuses of submit_sm.
use Rattle.std.proofs.Common.{◌≡◌, [], ◌∷◌, length, Some, refl}
use Rattle.std.specs.Prelude.{codes}
use Rattle.sms_base.specs.declared.final_state.FinalState.TheVariants.{Delivered}
use Rattle.smpp_pdu.specs.declared.status.CommandStatus.TheVariants.{ESME_RINVESMCLASS, ESME_RINVEXPIRY, ESME_RINVSCHED, ESME_RINVDSTADR}
use Rattle.smpp_pdu.specs.declared.body.Body.TheVariants.{DeliverSm}
use Rattle.smpp_pdu.specs.Writing.{written}
use Rattle.sms_centre_spec.specs.declared.answer.CentreAnswer.TheVariants.{Submitted, Refused}
use Rattle.sms_centre_spec.specs.Draft.{Draft, core_of}
use Rattle.sms_centre_spec.specs.CentreEvent.{submit_received}
use Rattle.sms_receipt.specs.ReceiptText.{receipt_text}
use Rattle.sms_receipt.specs.Receipts.{receipt_of}
use Rattle.sms_centre_spec.specs.Finals.{final_of}
use Rattle.sms_centre_spec.proofs.Everything.{everything}
use Rattle.sms_centre_spec.proofs.Worked.{hex, t0, handset_b, begun, sm, hello_to, comes, sent, row_of}

abbrev pub one : Draft
one = submit_received 0 (hello_to handset_b) (begun (handset_b ∷ []))

abbrev pub two : Draft
two = comes handset_b (hex (codes "890106020041020000")) (core_of (comes handset_b (hex (codes "8904")) (core_of one)))

text : receipt_text (final_of Delivered t0 (row_of (core_of two).rows)) ≡ codes "id:0000000001 sub:001 dlvrd:001 submit date:2402292359 done date:2402292359 stat:DELIVRD err:000 text:"
unfolding everything
text = refl

octets : length (receipt_text (final_of Delivered t0 (row_of (core_of two).rows))) ≡ 102
unfolding everything
octets = refl

whole : length (written (record { command_status = 0; sequence_number = 1; body = DeliverSm (receipt_of (final_of Delivered t0 (row_of (core_of two).rows))) })) ≡ 0xB3
unfolding everything
whole = refl

esm_class : (submit_received 0 (sm handset_b 0 4 1 [] (codes "hello") 0) (begun (handset_b ∷ []))).answer ≡ Some (Refused ESME_RINVESMCLASS)
unfolding everything
esm_class = refl

destination : (submit_received 0 (hello_to (codes "44A")) (begun (handset_b ∷ []))).answer ≡ Some (Refused ESME_RINVDSTADR)
unfolding everything
destination = refl

absolute : (submit_received 0 (sm handset_b 0 0 1 (codes "240301005959004+") (codes "hello") 0) (begun (handset_b ∷ []))).answer ≡ Some (Submitted 1)
unfolding everything
absolute = refl

over : (submit_received 0 (sm handset_b 0 0 1 (codes "240301005958004+") (codes "hello") 0) (begun (handset_b ∷ []))).answer ≡ Some (Refused ESME_RINVEXPIRY)
unfolding everything
over = refl

scheduled : (submit_received 0 (record (sm handset_b 0 0 1 [] (codes "hello") 0) { schedule_delivery_time = codes "000002000000000R" }) (begun (handset_b ∷ []))).answer ≡ Some (Refused ESME_RINVSCHED)
unfolding everything
scheduled = refl

later : sent (submit_received 0 (record (sm handset_b 0 0 1 [] (codes "hello") 0) { schedule_delivery_time = codes "000001000000000R" }) (begun (handset_b ∷ []))) ≡ []
unfolding everything
later = refl

past : (submit_received 0 (sm handset_b 0 0 1 (codes "000000000000000R") (codes "hello") 0) (begun (handset_b ∷ []))).answer ≡ Some (Refused ESME_RINVEXPIRY)
unfolding everything
past = refl

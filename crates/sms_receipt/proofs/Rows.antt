-- Worked examples: 1709251198 is 2024-02-29 23:59:58.
use Rattle.std.proofs.Common.{◌≡◌, ◌+◌, [], ◌∷◌, length, refl}
use Rattle.std.specs.Prelude.{codes}
use Rattle.sms_base.specs.declared.final_state.FinalState.TheVariants.{Delivered}
use Rattle.sms_base.specs.HandsetNumber.{own_address}
use Rattle.sms_base.specs.UtcClock.{clock_at}
use Rattle.smpp_pdu.specs.Writing.{written_message}
use Rattle.sms_receipt.specs.declared.final_message.Final.{Final}
use Rattle.sms_receipt.specs.ReceiptText.{receipt_text}
use Rattle.sms_receipt.specs.Receipts.{receipt_of}
use Rattle.sms_receipt.specs.StatusReports.{status_octets}

abbrev delivered : Final
delivered = record {
  id = 1;
  source = own_address (codes "447700900001");
  handset = codes "447700900456";
  message_reference = 0;
  submitted = 1709251198;
  done = 1709251198;
  state = Delivered;
}

text_is : receipt_text delivered ≡ codes "id:0000000001 sub:001 dlvrd:001 submit date:2402292359 done date:2402292359 stat:DELIVRD err:000 text:"
unfolding clock_at
text_is = refl

-- with its header the deliver_sm has B3 octets, hexadecimal
length_is : 16 + length (written_message (receipt_of delivered)) ≡ 179
unfolding clock_at
length_is = refl

-- the report of a SUBMIT with the reference 7, delivered two seconds later, at 2024-03-01 00:00:00
report_is : status_octets (record delivered { message_reference = 7; done = 1709251200 }) ≡ 6 ∷ 7 ∷ 12 ∷ 145 ∷ 68 ∷ 119 ∷ 0 ∷ 9 ∷ 64 ∷ 101 ∷ 66 ∷ 32 ∷ 146 ∷ 50 ∷ 149 ∷ 133 ∷ 0 ∷ 66 ∷ 48 ∷ 16 ∷ 0 ∷ 0 ∷ 0 ∷ 0 ∷ 0 ∷ []
unfolding clock_at
report_is = refl

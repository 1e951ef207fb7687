-- A receipt is a message that can be written.
use Rattle.std.proofs.Common.{◌≡◌, inl, ℕ, suc, ◌+◌, ◌<◌, ◌≤◌, Bool, true, false, nat_lt, cond, List, [], ◌∷◌, length, refl, ap, arith}
use Rattle.std.specs.Prelude.{map}
use Rattle.std.specs.List.{AllByRecursion}
use Rattle.std.proofs.lemmas.List.{length-append}
use Rattle.sms_base.specs.Address.{IsAddress}
use Rattle.sms_base.specs.HandsetNumber.{own_address}
use Rattle.sms_base.specs.declared.final_state.FinalState.{FinalState}
use Rattle.sms_base.specs.declared.final_state.FinalState.TheVariants.{Delivered, Expired, Deleted, Undeliverable}
use Rattle.sms_base.specs.declared.address.Address.{Address}
use Rattle.sms_base.proofs.HandsetNumbers.{text_is_short, text_has_no_nul}
use Rattle.smpp_pdu.specs.BodyGrammar.{IsMessageValue, address_octets}
use Rattle.smpp_pdu.specs.Fields.{IsText}
use Rattle.smpp_pdu.specs.Writing.{written_message, written_tlvs}
use Rattle.smpp_pdu.proofs.Lengths.{message_length}
use Rattle.sms_receipt.specs.declared.final_message.Final.{Final}
use Rattle.sms_receipt.specs.ReceiptText.{receipt_text}
use Rattle.sms_receipt.specs.Receipts.{ascii_octet, entity, receipt_of}

length-ascii : (cs : List ℕ) → length (map ascii_octet cs) ≡ length cs
length-ascii [] = refl
length-ascii (c ∷ cs) = ap suc (length-ascii cs)

above : (c : ℕ) (b : Bool) → 0 < c → 0 < cond b c 63
above c true h = h
above c false h = omega arith

ascii_above : (cs : List ℕ) → AllByRecursion (λ c. 0 < c) cs → AllByRecursion (λ c. 0 < c) (map ascii_octet cs)
ascii_above [] h = tt
ascii_above (c ∷ cs) h = (above c (nat_lt c 128) h.0, ascii_above cs h.1)

is_text : (a : Address) → IsAddress a → IsText 21 (entity a).addr
is_text a h = record { no_nul = ascii_above a.digits (text_has_no_nul a h); short = let n = text_is_short a h in let e = length-ascii a.digits in omega arith }

no_text : (limit : ℕ) → 0 < limit → IsText limit []
no_text limit h = record { no_nul = tt; short = h }

text_length_by : (end : Final) (state : FinalState) → length (receipt_text (record end { state = state })) ≡ 102
text_length_by end Delivered = refl
text_length_by end Expired = refl
text_length_by end Deleted = refl
text_length_by end Undeliverable = refl

pub text_length : (end : Final) → length (receipt_text end) ≡ 102
text_length end = text_length_by end end.state

pub can_be_written : (end : Final) → IsAddress end.source → IsAddress (own_address end.handset) → IsMessageValue (receipt_of end)
can_be_written end s d = record {
  service_type = no_text 6 (omega arith);
  source = is_text (own_address end.handset) d;
  destination = is_text end.source s;
  schedule_delivery_time = record { time = no_text 17 (omega arith); length_is = inl refl };
  validity_period = record { time = no_text 17 (omega arith); length_is = inl refl };
  short_message = let e = text_length end in omega arith;
}

address_length : (a : Address) → IsAddress a → length (address_octets (entity a)) ≤ 23
address_length a h = let n = text_is_short a h in omega (arith, length-ascii a.digits, length-append (entity a).addr (0 ∷ []))

tlvs_length : (end : Final) → length (written_tlvs (receipt_of end).tlvs) ≡ 20
tlvs_length end = refl

at_most : (total source destination text tlvs : ℕ) → total ≡ 0 + source + destination + 0 + 0 + text + tlvs + 11 → source ≤ 23 → destination ≤ 23 → text ≡ 102 → tlvs ≡ 20 → total ≤ 179
at_most total source destination text tlvs e a b c d = omega arith

pub is_short : (end : Final) → IsAddress end.source → IsAddress (own_address end.handset) → length (written_message (receipt_of end)) ≤ 179
is_short end s d =
    at_most (length (written_message (receipt_of end))) _ _ _ _ (message_length (receipt_of end)) (address_length (own_address end.handset) d) (address_length end.source s) (text_length end) (tlvs_length end)

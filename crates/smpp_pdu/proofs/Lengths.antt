-- How many octets are written.
use Rattle.std.proofs.Common.{◌≡◌, ℕ, ◌+◌, ◌/◌, ◌%◌, List, [], ◌∷◌, ◌++◌, length, Option, Some, None, refl, sym, ap, ◌∙◌, append_assoc, arith}
use Rattle.std.proofs.lemmas.List.{length-append}
use Rattle.smpp_pdu.specs.declared.address.SmeAddress.{SmeAddress}
use Rattle.smpp_pdu.specs.declared.bind.Bind.{Bind}
use Rattle.smpp_pdu.specs.declared.bind.BindResp.{BindResp}
use Rattle.smpp_pdu.specs.declared.message.Message.{Message}
use Rattle.smpp_pdu.specs.declared.message.MessageResp.{MessageResp}
use Rattle.smpp_pdu.specs.declared.query.QuerySm.{QuerySm}
use Rattle.smpp_pdu.specs.declared.query.QuerySmResp.{QuerySmResp}
use Rattle.smpp_pdu.specs.declared.cancel.CancelSm.{CancelSm}
use Rattle.smpp_pdu.specs.declared.tlv.TlvTag.{TlvTag}
use Rattle.smpp_pdu.specs.declared.tlv.TlvTag.TheVariants.{ReceiptedMessageId, SarMsgRefNum, SarTotalSegments, SarSegmentSeqnum, MessagePayload, MessageState}
use Rattle.smpp_pdu.specs.declared.tlv.Tlvs.{Tlvs}
use Rattle.smpp_pdu.specs.Tlvs.{Tlv, tlv_octets, tlv_of}
use Rattle.smpp_pdu.specs.Fields.{c_string, counted}
use Rattle.smpp_pdu.specs.BodyGrammar.{bind_octets, address_octets, message_resp_octets, query_octets, query_resp_octets, cancel_octets}
use Rattle.smpp_pdu.specs.Writing.{written_tlvs, written_len, written_message, written_bind_resp}

text_length : (text rest : List ℕ) → length (c_string text ++ rest) ≡ 1 + length text + length rest
text_length text rest = omega (arith, length-append (c_string text) rest, length-append text (0 ∷ []))

pub last_length : (text : List ℕ) → length (c_string text) ≡ 1 + length text
last_length text = omega (arith, length-append text (0 ∷ []))

pub counted_length : (octets : List ℕ) → length (counted octets) ≡ 1 + length octets
counted_length octets = omega arith

pub address_length : (a : SmeAddress) → length (address_octets a) ≡ length a.addr + 3
address_length a = omega (arith, last_length a.addr)

pub bind_length : (b : Bind) → length (bind_octets b) ≡ length b.system_id + length b.password + length b.system_type + length b.address_range + 7
bind_length b =
    let r3 : List ℕ = b.interface_version ∷ b.addr_ton ∷ b.addr_npi ∷ c_string b.address_range in
    let r2 : List ℕ = c_string b.system_type ++ r3 in
    let r1 : List ℕ = c_string b.password ++ r2 in
    omega (arith, text_length b.system_id r1, text_length b.password r2, text_length b.system_type r3, last_length b.address_range)

pub bind_resp_length : (r : BindResp) → length (written_bind_resp r) ≡ length r.system_id + length (written_tlvs r.tlvs) + 1
bind_resp_length r = omega (arith, text_length r.system_id (written_tlvs r.tlvs))

pub message_length : (m : Message) → length (written_message m)
    ≡ length m.service_type + length (address_octets m.source) + length (address_octets m.destination) + length m.schedule_delivery_time + length m.validity_period
    + length m.short_message + length (written_tlvs m.tlvs) + 11
message_length m =
    let r5 : List ℕ = counted m.short_message ++ written_tlvs m.tlvs in
    let r4 : List ℕ = m.registered_delivery ∷ m.replace_if_present_flag ∷ m.data_coding ∷ m.sm_default_msg_id ∷ r5 in
    let r3 : List ℕ = c_string m.validity_period ++ r4 in
    let r2 : List ℕ = m.esm_class ∷ m.protocol_id ∷ m.priority_flag ∷ (c_string m.schedule_delivery_time ++ r3) in
    let r1 : List ℕ = address_octets m.destination ++ r2 in
    let e0 = text_length m.service_type (address_octets m.source ++ r1) in
    let e1 = length-append (address_octets m.source) r1 in
    let e2 = length-append (address_octets m.destination) r2 in
    let e3 = text_length m.schedule_delivery_time r3 in
    let e4 = text_length m.validity_period r4 in
    let e5 = length-append m.short_message (written_tlvs m.tlvs) in
    omega (arith, e0, e1, e2, e3, e4, e5)

pub message_resp_length : (r : MessageResp) → length (message_resp_octets r) ≡ length r.message_id + 1
message_resp_length r = omega (arith, last_length r.message_id)

pub query_length : (q : QuerySm) → length (query_octets q) ≡ length q.message_id + length (address_octets q.source) + 1
query_length q = omega (arith, text_length q.message_id (address_octets q.source))

pub query_resp_length : (r : QuerySmResp) → length (query_resp_octets r) ≡ length r.message_id + length r.final_date + 4
query_resp_length r =
    let r1 : List ℕ = r.message_state ∷ r.error_code ∷ [] in
    omega (arith, text_length r.message_id (c_string r.final_date ++ r1), text_length r.final_date r1)

pub cancel_length : (c : CancelSm) → length (cancel_octets c) ≡ length c.service_type + length c.message_id + length (address_octets c.source) + length (address_octets c.destination) + 2
cancel_length c =
    let r1 : List ℕ = address_octets c.source ++ address_octets c.destination in
    omega (arith, text_length c.service_type (c_string c.message_id ++ r1), text_length c.message_id r1, length-append (address_octets c.source) (address_octets c.destination))

-- ---- optional parameters

octets_split : (xs ys : List Tlv) → tlv_octets (xs ++ ys) ≡ tlv_octets xs ++ tlv_octets ys
octets_split [] ys = refl
octets_split (x ∷ xs) ys =
    ap (λ (l : List ℕ). x.0 / 256 ∷ x.0 % 256 ∷ length x.1 / 256 ∷ length x.1 % 256 ∷ (x.1 ++ l)) (octets_split xs ys)
    ∙ ap (λ (l : List ℕ). x.0 / 256 ∷ x.0 % 256 ∷ length x.1 / 256 ∷ length x.1 % 256 ∷ l) (sym (append_assoc x.1 (tlv_octets xs) (tlv_octets ys)))

pub one_length : (tag : TlvTag) (o : Option (List ℕ)) → length (tlv_octets (tlv_of tag o)) ≡ written_len o
one_length tag None = refl
one_length tag (Some v) = omega (arith, length-append v [])

abbrev one : TlvTag → Option (List ℕ) → List ℕ
one tag o = tlv_octets (tlv_of tag o)

pub tlvs_split : (t : Tlvs) → written_tlvs t ≡
    one SarMsgRefNum t.sar_msg_ref_num ++ (one SarTotalSegments t.sar_total_segments ++ (one SarSegmentSeqnum t.sar_segment_seqnum
    ++ (one MessagePayload t.message_payload ++ (one ReceiptedMessageId t.receipted_message_id ++ one MessageState t.message_state))))
tlvs_split t =
    let r5 : List Tlv = tlv_of MessageState t.message_state in
    let r4 : List Tlv = tlv_of ReceiptedMessageId t.receipted_message_id ++ r5 in
    let r3 : List Tlv = tlv_of MessagePayload t.message_payload ++ r4 in
    let r2 : List Tlv = tlv_of SarSegmentSeqnum t.sar_segment_seqnum ++ r3 in
    let r1 : List Tlv = tlv_of SarTotalSegments t.sar_total_segments ++ r2 in
    octets_split (tlv_of SarMsgRefNum t.sar_msg_ref_num) r1
    ∙ ap (λ (l : List ℕ). one SarMsgRefNum t.sar_msg_ref_num ++ l) (octets_split (tlv_of SarTotalSegments t.sar_total_segments) r2
    ∙ ap (λ (l : List ℕ). one SarTotalSegments t.sar_total_segments ++ l) (octets_split (tlv_of SarSegmentSeqnum t.sar_segment_seqnum) r3
    ∙ ap (λ (l : List ℕ). one SarSegmentSeqnum t.sar_segment_seqnum ++ l) (octets_split (tlv_of MessagePayload t.message_payload) r4
    ∙ ap (λ (l : List ℕ). one MessagePayload t.message_payload ++ l) (octets_split (tlv_of ReceiptedMessageId t.receipted_message_id) r5))))

six_lengths : (a b c d e f : List ℕ) → length (a ++ (b ++ (c ++ (d ++ (e ++ f))))) ≡ length a + length b + length c + length d + length e + length f
six_lengths a b c d e f =
    omega (arith, length-append a (b ++ (c ++ (d ++ (e ++ f)))), length-append b (c ++ (d ++ (e ++ f))), length-append c (d ++ (e ++ f)), length-append d (e ++ f), length-append e f)

pub tlvs_length : (t : Tlvs) → length (written_tlvs t)
    ≡ written_len t.sar_msg_ref_num + written_len t.sar_total_segments + written_len t.sar_segment_seqnum + written_len t.message_payload + written_len t.receipted_message_id + written_len t.message_state
tlvs_length t =
    let a = six_lengths (one SarMsgRefNum t.sar_msg_ref_num) (one SarTotalSegments t.sar_total_segments) (one SarSegmentSeqnum t.sar_segment_seqnum) (one MessagePayload t.message_payload) (one ReceiptedMessageId t.receipted_message_id) (one MessageState t.message_state) in
    let b = one_length SarMsgRefNum t.sar_msg_ref_num in
    let c = one_length SarTotalSegments t.sar_total_segments in
    let d = one_length SarSegmentSeqnum t.sar_segment_seqnum in
    let e = one_length MessagePayload t.message_payload in
    let f = one_length ReceiptedMessageId t.receipted_message_id in
    let g = one_length MessageState t.message_state in
    ap length (tlvs_split t) ∙ omega (arith, a, b, c, d, e, f, g)

-- Optional parameters (SMPP v3.4 3.2.4.1, 5.3).
use Rattle.std.specs.Prelude.{◌≡◌, ℕ, ◌==◌, List, [], ◌∷◌, ◌++◌, length, Option, Some, None, if◌then◌else◌}
use Rattle.smpp_pdu.specs.Fields.{two}
use Rattle.smpp_pdu.specs.declared.tlv.TlvTag.{TlvTag}
use Rattle.smpp_pdu.specs.declared.tlv.TlvTag.TheVariants.{ReceiptedMessageId, SarMsgRefNum, SarTotalSegments, SarSegmentSeqnum, MessagePayload, MessageState}
use Rattle.smpp_pdu.specs.declared.tlv.Tlvs.{Tlvs}

-- the tags of those that are used (SMPP v3.4 5.3.1)
abbrev pub tag_number : TlvTag → ℕ
tag_number ReceiptedMessageId = 0x001E
tag_number SarMsgRefNum = 0x020C
tag_number SarTotalSegments = 0x020E
tag_number SarSegmentSeqnum = 0x020F
tag_number MessagePayload = 0x0424
tag_number MessageState = 0x0427

-- a parameter, as its tag and its value
abbrev pub Tlv : Type 0
Tlv = ℕ × List ℕ

-- tag, length and value of each
abbrev pub tlv_octets : List Tlv → List ℕ
tlv_octets [] = []
tlv_octets (tlv ∷ tlvs) = two tlv.0 ++ (two (length tlv.1) ++ (tlv.1 ++ tlv_octets tlvs))

-- the value of the last parameter with that tag
abbrev pub later : Option (List ℕ) → Option (List ℕ) → Option (List ℕ)
later (Some value) earlier = Some value
later None earlier = earlier

abbrev pub value_of : ℕ → List Tlv → Option (List ℕ)
value_of tag [] = None
value_of tag (tlv ∷ tlvs) = later (value_of tag tlvs) (if tlv.0 == tag then Some tlv.1 else None)

-- the values that are used
abbrev pub values_of : List Tlv → Tlvs
values_of tlvs = record {
  sar_msg_ref_num = value_of (tag_number SarMsgRefNum) tlvs;
  sar_total_segments = value_of (tag_number SarTotalSegments) tlvs;
  sar_segment_seqnum = value_of (tag_number SarSegmentSeqnum) tlvs;
  message_payload = value_of (tag_number MessagePayload) tlvs;
  receipted_message_id = value_of (tag_number ReceiptedMessageId) tlvs;
  message_state = value_of (tag_number MessageState) tlvs;
}

-- Octets that are parameters, of which those that aren't used are skipped and of equal ones the last counts.
abbrev pub AreTlvs : List ℕ → Tlvs → Type 0
AreTlvs octets values = (tlvs : List Tlv) × (octets ≡ tlv_octets tlvs) × (values ≡ values_of tlvs)

-- ---- as they are written

abbrev pub tlv_of : TlvTag → Option (List ℕ) → List Tlv
tlv_of tag None = []
tlv_of tag (Some value) = (tag_number tag, value) ∷ []

-- one parameter for each value that is there, in this order
abbrev pub tlvs_of : Tlvs → List Tlv
tlvs_of values =
    tlv_of SarMsgRefNum values.sar_msg_ref_num
    ++ (tlv_of SarTotalSegments values.sar_total_segments
    ++ (tlv_of SarSegmentSeqnum values.sar_segment_seqnum
    ++ (tlv_of MessagePayload values.message_payload
    ++ (tlv_of ReceiptedMessageId values.receipted_message_id
    ++ tlv_of MessageState values.message_state))))

-- ---- one after the other

abbrev pub no_tlvs : Tlvs
no_tlvs = values_of []

abbrev pub value_after : TlvTag → ℕ → List ℕ → Option (List ℕ) → Option (List ℕ)
value_after used tag value before = if tag == tag_number used then Some value else before

-- the values when one more parameter was read
abbrev pub keep : ℕ → List ℕ → Tlvs → Tlvs
keep tag value before = record {
  sar_msg_ref_num = value_after SarMsgRefNum tag value before.sar_msg_ref_num;
  sar_total_segments = value_after SarTotalSegments tag value before.sar_total_segments;
  sar_segment_seqnum = value_after SarSegmentSeqnum tag value before.sar_segment_seqnum;
  message_payload = value_after MessagePayload tag value before.message_payload;
  receipted_message_id = value_after ReceiptedMessageId tag value before.receipted_message_id;
  message_state = value_after MessageState tag value before.message_state;
}

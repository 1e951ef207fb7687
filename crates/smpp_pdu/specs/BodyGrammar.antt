-- The bodies of PDUs: their fields behind each other, each within its limit.
use Rattle.std.specs.Prelude.{◌≡◌, ℕ, ◌<◌, List, [], ◌∷◌, ◌++◌, length, Option, Some, None}
use Rattle.smpp_pdu.specs.declared.address.SmeAddress.{SmeAddress}
use Rattle.smpp_pdu.specs.declared.bind.Bind.{Bind}
use Rattle.smpp_pdu.specs.declared.bind.BindResp.{BindResp}
use Rattle.smpp_pdu.specs.declared.message.Message.{Message}
use Rattle.smpp_pdu.specs.declared.message.MessageResp.{MessageResp}
use Rattle.smpp_pdu.specs.declared.query.QuerySm.{QuerySm}
use Rattle.smpp_pdu.specs.declared.query.QuerySmResp.{QuerySmResp}
use Rattle.smpp_pdu.specs.declared.cancel.CancelSm.{CancelSm}
use Rattle.smpp_pdu.specs.Fields.{c_string, counted, IsText, IsTimeText}
use Rattle.smpp_pdu.specs.Tlvs.{AreTlvs}

-- ---- bind_receiver, bind_transmitter and bind_transceiver (SMPP v3.4 4.1.1, 4.1.3, 4.1.5)

pub record IsBindValue (b : Bind) : Type 0 where
  pub system_id : IsText 16 b.system_id
  pub password : IsText 9 b.password
  pub system_type : IsText 13 b.system_type
  pub address_range : IsText 41 b.address_range

abbrev pub bind_octets : Bind → List ℕ
bind_octets b =
    c_string b.system_id ++ (c_string b.password ++ (c_string b.system_type ++ (b.interface_version ∷ b.addr_ton ∷ b.addr_npi ∷ c_string b.address_range)))

abbrev pub IsBind : List ℕ → Bind → Type 0
IsBind octets b = IsBindValue b × (octets ≡ bind_octets b)

-- ---- their responses (4.1.2, 4.1.4, 4.1.6)

abbrev pub bind_resp_octets : BindResp → List ℕ → List ℕ
bind_resp_octets r parameters = c_string r.system_id ++ parameters

abbrev pub IsBindResp : List ℕ → BindResp → Type 0
IsBindResp octets r = IsText 16 r.system_id × ((parameters : List ℕ) × AreTlvs parameters r.tlvs × (octets ≡ bind_resp_octets r parameters))

-- ---- the address of an entity (5.2.5 to 5.2.9)

abbrev pub address_octets : SmeAddress → List ℕ
address_octets a = a.ton ∷ a.npi ∷ c_string a.addr

abbrev pub IsAddressText : SmeAddress → Type 0
IsAddressText a = IsText 21 a.addr

-- ---- submit_sm and deliver_sm (4.4.1, 4.6.1)

pub record IsMessageValue (m : Message) : Type 0 where
  pub service_type : IsText 6 m.service_type
  pub source : IsAddressText m.source
  pub destination : IsAddressText m.destination
  pub schedule_delivery_time : IsTimeText m.schedule_delivery_time
  pub validity_period : IsTimeText m.validity_period
  pub short_message : length m.short_message < 255

abbrev pub message_octets : Message → List ℕ → List ℕ
message_octets m parameters =
    c_string m.service_type ++ (address_octets m.source ++ (address_octets m.destination
    ++ (m.esm_class ∷ m.protocol_id ∷ m.priority_flag
    ∷ (c_string m.schedule_delivery_time ++ (c_string m.validity_period
    ++ (m.registered_delivery ∷ m.replace_if_present_flag ∷ m.data_coding ∷ m.sm_default_msg_id
    ∷ (counted m.short_message ++ parameters)))))))

abbrev pub IsMessage : List ℕ → Message → Type 0
IsMessage octets m = IsMessageValue m × ((parameters : List ℕ) × AreTlvs parameters m.tlvs × (octets ≡ message_octets m parameters))

-- ---- their responses (4.4.2, 4.6.2)

abbrev pub message_resp_octets : MessageResp → List ℕ
message_resp_octets r = c_string r.message_id

abbrev pub IsMessageResp : List ℕ → MessageResp → Type 0
IsMessageResp octets r = IsText 65 r.message_id × (octets ≡ message_resp_octets r)

-- ---- query_sm (4.8.1) and its response (4.8.2)

pub record IsQueryValue (q : QuerySm) : Type 0 where
  pub message_id : IsText 65 q.message_id
  pub source : IsAddressText q.source

abbrev pub query_octets : QuerySm → List ℕ
query_octets q = c_string q.message_id ++ address_octets q.source

abbrev pub IsQuery : List ℕ → QuerySm → Type 0
IsQuery octets q = IsQueryValue q × (octets ≡ query_octets q)

pub record IsQueryRespValue (r : QuerySmResp) : Type 0 where
  pub message_id : IsText 65 r.message_id
  pub final_date : IsTimeText r.final_date

abbrev pub query_resp_octets : QuerySmResp → List ℕ
query_resp_octets r = c_string r.message_id ++ (c_string r.final_date ++ (r.message_state ∷ r.error_code ∷ []))

abbrev pub IsQueryResp : List ℕ → QuerySmResp → Type 0
IsQueryResp octets r = IsQueryRespValue r × (octets ≡ query_resp_octets r)

-- ---- cancel_sm (4.9.1)

pub record IsCancelValue (c : CancelSm) : Type 0 where
  pub service_type : IsText 6 c.service_type
  pub message_id : IsText 65 c.message_id
  pub source : IsAddressText c.source
  pub destination : IsAddressText c.destination

abbrev pub cancel_octets : CancelSm → List ℕ
cancel_octets c = c_string c.service_type ++ (c_string c.message_id ++ (address_octets c.source ++ address_octets c.destination))

abbrev pub IsCancel : List ℕ → CancelSm → Type 0
IsCancel octets c = IsCancelValue c × (octets ≡ cancel_octets c)

-- ---- a response may have no body

abbrev pub OrNone : {A : Type 0} → (List ℕ → A → Type 0) → List ℕ → Option A → Type 0
OrNone is octets None = octets ≡ []
OrNone is octets (Some value) = is octets value

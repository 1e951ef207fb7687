-- PDUs of a script's run have room.
use Rattle.std.proofs.Common.{◌≡◌, ◌<◌, ◌≤◌, ◌⊎◌, inl, inr, refl, sym, ◌∙◌, ℕ, Bool, true, false, List, [], ◌∷◌, length, arith, Option, Some, None}
use Rattle.std.specs.List.{AllByRecursion, list_all}
use Rattle.std.specs.Prelude.{◌↔◌, nat_lt, nat_eq}
use Rattle.std.proofs.lemmas.Bool.{and_from, and_parts, eq-eqb, eqb-true, false≢true, lt-ltb, ltb-true}
use Rattle.smpp_pdu.specs.BodyGrammar.{IsCancelValue, IsMessageValue, IsQueryRespValue, IsQueryValue}
use Rattle.smpp_pdu.specs.Fields.{IsText, IsTimeText}
use Rattle.smpp_pdu.specs.Writing.{IfThere, IsBodyValue, IsMessageRespValue, IsWritable, written_body, written_message, written_tlvs}
use Rattle.smpp_pdu.specs.declared.body.Body.{Body}
use Rattle.smpp_pdu.specs.declared.body.Body.TheVariants.{SubmitSm, DeliverSm, QuerySm, CancelSm, SubmitSmResp, DeliverSmResp, QuerySmResp, CancelSmResp}
use Rattle.smpp_pdu.specs.declared.cancel.CancelSm.{CancelSm as CancelSmOf}
use Rattle.smpp_pdu.specs.declared.message.Message.{Message}
use Rattle.smpp_pdu.specs.declared.message.MessageResp.{MessageResp}
use Rattle.smpp_pdu.specs.declared.pdu.Pdu.{Pdu}
use Rattle.smpp_pdu.specs.declared.query.QuerySm.{QuerySm as QuerySmOf}
use Rattle.smpp_pdu.specs.declared.query.QuerySmResp.{QuerySmResp as QuerySmRespOf}
use Rattle.smpp_pdu.specs.declared.tlv.Tlvs.{Tlvs}
use Rattle.smpp_pdu.proofs.Lengths.{address_length, cancel_length, message_length, message_resp_length, query_length, query_resp_length, tlvs_length}
use Rattle.sms_trace.specs.sessions.Writable.{AreShort, CanBeWritten}

-- ---- texts

each_octet : (octets : List ℕ) → list_all (λ octet. nat_lt 0 octet) octets ≡ true → AllByRecursion (λ octet. 0 < octet) octets
each_octet [] h = tt
each_octet (octet ∷ octets) h =
    let b = and_parts (nat_lt 0 octet) (list_all (λ o. nat_lt 0 o) octets) h in
    (ltb-true 0 octet b.0, each_octet octets b.1)

octets_each : (octets : List ℕ) → AllByRecursion (λ octet. 0 < octet) octets → list_all (λ octet. nat_lt 0 octet) octets ≡ true
octets_each [] h = refl
octets_each (octet ∷ octets) h =
    and_from (nat_lt 0 octet) (list_all (λ o. nat_lt 0 o) octets) (lt-ltb 0 octet h.0) (octets_each octets h.1)

pub text_is : (limit : ℕ) (octets : List ℕ) → list_all (λ octet. nat_lt 0 octet) octets ≡ true → (nat_lt (length octets) limit ≡ true) ↔ IsText limit octets
text_is limit octets h =
    (λ short. record { no_nul = each_octet octets h; short = ltb-true (length octets) limit short }, λ t. lt-ltb (length octets) limit t.short)

-- a text with a NUL is none
pub text_is_not : (limit : ℕ) (octets : List ℕ) (passes : Bool) → passes ≡ list_all (λ octet. nat_lt 0 octet) octets → passes ≡ false → (passes ≡ true) ↔ IsText limit octets
text_is_not limit octets passes h fails = (λ e. absurd (false≢true (sym fails ∙ e)), λ t. h ∙ octets_each octets t.no_nul)

pub time_is : (octets : List ℕ) → list_all (λ octet. nat_lt 0 octet) octets ≡ true → (length octets ≡ 0 → ⊥) → (nat_eq (length octets) 16 ≡ true) ↔ IsTimeText octets
time_is octets h some = (there, back) where
  there : nat_eq (length octets) 16 ≡ true → IsTimeText octets
  there sixteen =
      let e : length octets ≡ 16 = eqb-true (length octets) 16 sixteen in
      record { time = record { no_nul = each_octet octets h; short = omega arith }; length_is = inr e }

  sixteen_of : (length octets ≡ 0) ⊎ (length octets ≡ 16) → nat_eq (length octets) 16 ≡ true
  sixteen_of (inl none) = absurd (some none)
  sixteen_of (inr e) = eq-eqb (length octets) 16 e

  back : IsTimeText octets → nat_eq (length octets) 16 ≡ true
  back t = sixteen_of t.length_is

pub time_is_none : (octets : List ℕ) (is_none : Bool) → length octets ≡ 0 → is_none ≡ true → (is_none ≡ true) ↔ IsTimeText octets
time_is_none [] is_none h e = (λ e. record { time = record { no_nul = tt; short = omega arith }; length_is = inl refl }, λ t. e)
time_is_none (octet ∷ octets) is_none h e = absurd (omega (arith, h))

pub time_is_not : (octets : List ℕ) (passes : Bool) → passes ≡ list_all (λ octet. nat_lt 0 octet) octets → passes ≡ false → (passes ≡ true) ↔ IsTimeText octets
time_is_not octets passes h fails = (λ e. absurd (false≢true (sym fails ∙ e)), λ t. h ∙ octets_each octets t.time.no_nul)

-- ---- lengths

tlvs_have_room : (t : Tlvs) → AreShort t → length (written_tlvs t) ≤ 60524
tlvs_have_room t s = omega (arith, tlvs_length t, s.reference, s.total, s.number, s.payload, s.receipted, s.state)

time_short : (octets : List ℕ) → IsTimeText octets → length octets < 17
time_short octets t = t.time.short

message_has_room : (m : Message) → IsMessageValue m → AreShort m.tlvs → length (written_message m) ≤ 65520
message_has_room m v s = omega (
  arith,
  message_length m,
  address_length m.source,
  address_length m.destination,
  v.service_type.short,
  v.source.short,
  v.destination.short,
  time_short m.schedule_delivery_time v.schedule_delivery_time,
  time_short m.validity_period v.validity_period,
  v.short_message,
  tlvs_have_room m.tlvs s,
)

resp_has_room : (r : Option MessageResp) → IfThere IsMessageRespValue r → length (written_body (SubmitSmResp r)) ≤ 65520
resp_has_room None v = omega arith
resp_has_room (Some r) v = omega (arith, message_resp_length r, v.short)

delivered_has_room : (r : Option MessageResp) → IfThere IsMessageRespValue r → length (written_body (DeliverSmResp r)) ≤ 65520
delivered_has_room None v = omega arith
delivered_has_room (Some r) v = omega (arith, message_resp_length r, v.short)

queried_has_room : (r : Option QuerySmRespOf) → IfThere IsQueryRespValue r → length (written_body (QuerySmResp r)) ≤ 65520
queried_has_room None v = omega arith
queried_has_room (Some r) v = omega (arith, query_resp_length r, v.message_id.short, time_short r.final_date v.final_date)

query_has_room : (q : QuerySmOf) → IsQueryValue q → length (written_body (QuerySm q)) ≤ 65520
query_has_room q v = omega (arith, query_length q, address_length q.source, v.message_id.short, v.source.short)

cancel_has_room : (c : CancelSmOf) → IsCancelValue c → length (written_body (CancelSm c)) ≤ 65520
cancel_has_room c v = omega (arith, cancel_length c, address_length c.source, address_length c.destination, v.service_type.short, v.message_id.short, v.source.short, v.destination.short)

-- ---- PDUs

is_small : (body : Body) → CanBeWritten body → IsBodyValue body × (length (written_body body) ≤ 65520)
is_small (SubmitSm body) v = (v.0, message_has_room body v.0 v.1)
is_small (DeliverSm body) v = (v.0, message_has_room body v.0 v.1)
is_small (QuerySm body) v = (v, query_has_room body v)
is_small (CancelSm body) v = (v, cancel_has_room body v)
is_small (SubmitSmResp body) v = (v, resp_has_room body v)
is_small (DeliverSmResp body) v = (v, delivered_has_room body v)
is_small (QuerySmResp body) v = (v, queried_has_room body v)
is_small CancelSmResp v = (tt, omega arith)
is_small _ v = absurd v

pub is_writable : (pdu : Pdu) → CanBeWritten pdu.body → IsWritable pdu
is_writable pdu v =
    let s = is_small pdu.body v in
    record { fields = s.0; short = omega (arith, s.1) }

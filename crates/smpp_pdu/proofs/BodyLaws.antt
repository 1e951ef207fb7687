-- Each body that is read is in the grammar, and each that is in the grammar is read.
use Rattle.std.proofs.Common.{◌≡◌, ℕ, List, [], ◌∷◌, ◌++◌, Result, Ok, refl, sym, ap, subst, ◌∙◌}
use Rattle.std.proofs.lemmas.List.{append-nil}
use Rattle.sms_base.specs.Reading.{◌>>=◌, octet_in, end_in, AreOctets}
use Rattle.sms_base.proofs.Steps.{bind_ok, ok_is, end_takes}
use Rattle.smpp_pdu.specs.declared.fault.PduFault.{PduFault}
use Rattle.smpp_pdu.specs.declared.fault.PduFault.TheVariants.{Truncated, BadLength}
use Rattle.smpp_pdu.specs.declared.address.SmeAddress.{SmeAddress}
use Rattle.smpp_pdu.specs.declared.bind.Bind.{Bind}
use Rattle.smpp_pdu.specs.declared.bind.BindResp.{BindResp}
use Rattle.smpp_pdu.specs.declared.message.Message.{Message}
use Rattle.smpp_pdu.specs.declared.message.MessageResp.{MessageResp}
use Rattle.smpp_pdu.specs.declared.query.QuerySm.{QuerySm}
use Rattle.smpp_pdu.specs.declared.query.QuerySmResp.{QuerySmResp}
use Rattle.smpp_pdu.specs.declared.cancel.CancelSm.{CancelSm}
use Rattle.smpp_pdu.specs.Fields.{c_string, counted}
use Rattle.smpp_pdu.specs.FieldReading.{c_string_in, time_in, short_message_in}
use Rattle.smpp_pdu.specs.TlvReading.{tlvs_at}
use Rattle.smpp_pdu.specs.BodyGrammar.{IsBindValue, bind_octets, IsBind, bind_resp_octets, IsBindResp, address_octets, IsAddressText, IsMessageValue, message_octets, IsMessage, message_resp_octets, IsMessageResp, IsQueryValue, query_octets, IsQuery, IsQueryRespValue, query_resp_octets, IsQueryResp, IsCancelValue, cancel_octets, IsCancel}
use Rattle.smpp_pdu.specs.BodyReading.{address_in, bind_at, bind_resp_at, message_at, message_resp_at, query_at, query_resp_at, cancel_at}
use Rattle.smpp_pdu.proofs.FieldLaws.{Took, one_takes, c_string_takes, c_string_again, time_takes, time_again, short_message_takes, short_message_again}
use Rattle.smpp_pdu.proofs.TlvLaws.{parameters_take, parameters_again}

-- a reading that went on, as what it read first and what was read of that
pub went : {A B E G : Type 0} (r : Result A E) (f : A → Result B E) (y : B) → (r >>= f) ≡ Ok y → ((x : A) → r ≡ Ok x → f x ≡ Ok y → G) → G
went r f y e go = let s = bind_ok r f y e in go s.0 s.1 s.2

-- ---- addresses

pub address_takes : (xs : List ℕ) (x : SmeAddress × List ℕ) → AreOctets xs → address_in xs ≡ Ok x → IsAddressText x.0 × Took (address_octets x.0) xs x.1
unfolding address_in
address_takes xs x h e =
    let s1 = bind_ok (octet_in Truncated xs) _ x e in
    let p1 = one_takes Truncated xs s1.0 h s1.1 in
    let s2 = bind_ok (octet_in Truncated s1.0.1) _ x s1.2 in
    let p2 = one_takes Truncated s1.0.1 s2.0 p1.1.octets s2.1 in
    let s3 = bind_ok (c_string_in 21 s2.0.1) _ x s2.2 in
    let p3 = c_string_takes 21 s2.0.1 s3.0 p2.1.octets s3.1 in
    let made : SmeAddress = record { ton = s1.0.0; npi = s2.0.0; addr = s3.0.0 } in
    let whole : xs ≡ address_octets made ++ s3.0.1 = p1.1.parts ∙ ap (λ (l : List ℕ). s1.0.0 ∷ l) (p2.1.parts ∙ ap (λ (l : List ℕ). s2.0.0 ∷ l) p3.1.parts) in
    subst (λ (y : SmeAddress × List ℕ). IsAddressText y.0 × Took (address_octets y.0) xs y.1) (ok_is {E = PduFault} (made, s3.0.1) x s3.2) (p3.0, record { parts = whole; octets = p3.1.octets })

pub address_again : (a : SmeAddress) (rest : List ℕ) → IsAddressText a → address_in (address_octets a ++ rest) ≡ Ok (a, rest)
unfolding address_in
address_again a rest h = rw (c_string_again 21 a.addr rest h) refl

-- ---- bodies

pub bind_takes : (xs : List ℕ) (v : Bind) → AreOctets xs → bind_at xs ≡ Ok v → IsBind xs v
unfolding bind_at
bind_takes xs v h e =
    went (c_string_in 16 xs) _ v e (λ s1 a1 b1.
    let p1 = c_string_takes 16 xs s1 h a1 in
    went (c_string_in 9 s1.1) _ v b1 (λ s2 a2 b2.
    let p2 = c_string_takes 9 s1.1 s2 p1.1.octets a2 in
    went (c_string_in 13 s2.1) _ v b2 (λ s3 a3 b3.
    let p3 = c_string_takes 13 s2.1 s3 p2.1.octets a3 in
    went (octet_in Truncated s3.1) _ v b3 (λ s4 a4 b4.
    let p4 = one_takes Truncated s3.1 s4 p3.1.octets a4 in
    went (octet_in Truncated s4.1) _ v b4 (λ s5 a5 b5.
    let p5 = one_takes Truncated s4.1 s5 p4.1.octets a5 in
    went (octet_in Truncated s5.1) _ v b5 (λ s6 a6 b6.
    let p6 = one_takes Truncated s5.1 s6 p5.1.octets a6 in
    went (c_string_in 41 s6.1) _ v b6 (λ s7 a7 b7.
    let p7 = c_string_takes 41 s6.1 s7 p6.1.octets a7 in
    went (end_in BadLength s7.1) _ v b7 (λ t at bt.
    let none = end_takes BadLength s7.1 t at in
    let made : Bind = record { system_id = s1.0; password = s2.0; system_type = s3.0; interface_version = s4.0; addr_ton = s5.0; addr_npi = s6.0; address_range = s7.0 } in
    let whole : xs ≡ bind_octets made = p1.1.parts ∙ ap (λ (l : List ℕ). c_string s1.0 ++ l) (p2.1.parts ∙ ap (λ (l : List ℕ). c_string s2.0 ++ l) (p3.1.parts ∙ ap (λ (l : List ℕ). c_string s3.0 ++ l) (p4.1.parts ∙ ap (λ (l : List ℕ). s4.0 ∷ l) (p5.1.parts ∙ ap (λ (l : List ℕ). s5.0 ∷ l) (p6.1.parts ∙ ap (λ (l : List ℕ). s6.0 ∷ l) (p7.1.parts ∙ ap (λ (l : List ℕ). c_string s7.0 ++ l) none ∙ append-nil (c_string s7.0))))))) in
    let limits : IsBindValue made = record { system_id = p1.0; password = p2.0; system_type = p3.0; address_range = p7.0 } in
    subst (IsBind xs) (ok_is {E = PduFault} made v bt) (limits, whole)))))))))

pub bind_again : (xs : List ℕ) (v : Bind) → IsBind xs v → bind_at xs ≡ Ok v
unfolding bind_at
bind_again xs v (limits, whole) =
    let r6 : List ℕ = c_string v.address_range in
    let last : c_string_in 41 (c_string v.address_range) ≡ Ok (v.address_range, []) = ap (c_string_in 41) (sym (append-nil (c_string v.address_range))) ∙ c_string_again 41 v.address_range [] limits.address_range in
    let r5 : List ℕ = v.addr_npi ∷ r6 in
    let r4 : List ℕ = v.addr_ton ∷ r5 in
    let r3 : List ℕ = v.interface_version ∷ r4 in
    let r2 : List ℕ = c_string v.system_type ++ r3 in
    let r1 : List ℕ = c_string v.password ++ r2 in
    rw (whole, c_string_again 16 v.system_id r1 limits.system_id, c_string_again 9 v.password r2 limits.password, c_string_again 13 v.system_type r3 limits.system_type, last) refl

pub bind_resp_takes : (xs : List ℕ) (v : BindResp) → AreOctets xs → bind_resp_at xs ≡ Ok v → IsBindResp xs v
unfolding bind_resp_at
bind_resp_takes xs v h e =
    went (c_string_in 16 xs) _ v e (λ s1 a1 b1.
    let p1 = c_string_takes 16 xs s1 h a1 in
    went (tlvs_at s1.1) _ v b1 (λ t at bt.
    let tail = parameters_take s1.1 t p1.1.octets at in
    let made : BindResp = record { system_id = s1.0; tlvs = t } in
    let whole : xs ≡ bind_resp_octets made s1.1 = p1.1.parts in
    subst (IsBindResp xs) (ok_is {E = PduFault} made v bt) (p1.0, (s1.1, tail, whole))))

pub bind_resp_again : (xs : List ℕ) (v : BindResp) → IsBindResp xs v → bind_resp_at xs ≡ Ok v
unfolding bind_resp_at
bind_resp_again xs v (limits, (parameters, are, whole)) =
    let r1 : List ℕ = parameters in
    rw (whole, c_string_again 16 v.system_id r1 limits, parameters_again parameters v.tlvs are) refl

pub message_takes : (xs : List ℕ) (v : Message) → AreOctets xs → message_at xs ≡ Ok v → IsMessage xs v
unfolding message_at
message_takes xs v h e =
    went (c_string_in 6 xs) _ v e (λ s1 a1 b1.
    let p1 = c_string_takes 6 xs s1 h a1 in
    went (address_in s1.1) _ v b1 (λ s2 a2 b2.
    let p2 = address_takes s1.1 s2 p1.1.octets a2 in
    went (address_in s2.1) _ v b2 (λ s3 a3 b3.
    let p3 = address_takes s2.1 s3 p2.1.octets a3 in
    went (octet_in Truncated s3.1) _ v b3 (λ s4 a4 b4.
    let p4 = one_takes Truncated s3.1 s4 p3.1.octets a4 in
    went (octet_in Truncated s4.1) _ v b4 (λ s5 a5 b5.
    let p5 = one_takes Truncated s4.1 s5 p4.1.octets a5 in
    went (octet_in Truncated s5.1) _ v b5 (λ s6 a6 b6.
    let p6 = one_takes Truncated s5.1 s6 p5.1.octets a6 in
    went (time_in s6.1) _ v b6 (λ s7 a7 b7.
    let p7 = time_takes s6.1 s7 p6.1.octets a7 in
    went (time_in s7.1) _ v b7 (λ s8 a8 b8.
    let p8 = time_takes s7.1 s8 p7.1.octets a8 in
    went (octet_in Truncated s8.1) _ v b8 (λ s9 a9 b9.
    let p9 = one_takes Truncated s8.1 s9 p8.1.octets a9 in
    went (octet_in Truncated s9.1) _ v b9 (λ s10 a10 b10.
    let p10 = one_takes Truncated s9.1 s10 p9.1.octets a10 in
    went (octet_in Truncated s10.1) _ v b10 (λ s11 a11 b11.
    let p11 = one_takes Truncated s10.1 s11 p10.1.octets a11 in
    went (octet_in Truncated s11.1) _ v b11 (λ s12 a12 b12.
    let p12 = one_takes Truncated s11.1 s12 p11.1.octets a12 in
    went (short_message_in s12.1) _ v b12 (λ s13 a13 b13.
    let p13 = short_message_takes s12.1 s13 p12.1.octets a13 in
    went (tlvs_at s13.1) _ v b13 (λ t at bt.
    let tail = parameters_take s13.1 t p13.1.octets at in
    let made : Message = record { service_type = s1.0; source = s2.0; destination = s3.0; esm_class = s4.0; protocol_id = s5.0; priority_flag = s6.0; schedule_delivery_time = s7.0; validity_period = s8.0; registered_delivery = s9.0; replace_if_present_flag = s10.0; data_coding = s11.0; sm_default_msg_id = s12.0; short_message = s13.0; tlvs = t } in
    let whole : xs ≡ message_octets made s13.1 = p1.1.parts ∙ ap (λ (l : List ℕ). c_string s1.0 ++ l) (p2.1.parts ∙ ap (λ (l : List ℕ). address_octets s2.0 ++ l) (p3.1.parts ∙ ap (λ (l : List ℕ). address_octets s3.0 ++ l) (p4.1.parts ∙ ap (λ (l : List ℕ). s4.0 ∷ l) (p5.1.parts ∙ ap (λ (l : List ℕ). s5.0 ∷ l) (p6.1.parts ∙ ap (λ (l : List ℕ). s6.0 ∷ l) (p7.1.parts ∙ ap (λ (l : List ℕ). c_string s7.0 ++ l) (p8.1.parts ∙ ap (λ (l : List ℕ). c_string s8.0 ++ l) (p9.1.parts ∙ ap (λ (l : List ℕ). s9.0 ∷ l) (p10.1.parts ∙ ap (λ (l : List ℕ). s10.0 ∷ l) (p11.1.parts ∙ ap (λ (l : List ℕ). s11.0 ∷ l) (p12.1.parts ∙ ap (λ (l : List ℕ). s12.0 ∷ l) (p13.1.parts)))))))))))) in
    let limits : IsMessageValue made = record { service_type = p1.0; source = p2.0; destination = p3.0; schedule_delivery_time = p7.0; validity_period = p8.0; short_message = p13.0 } in
    subst (IsMessage xs) (ok_is {E = PduFault} made v bt) (limits, (s13.1, tail, whole))))))))))))))))

pub message_again : (xs : List ℕ) (v : Message) → IsMessage xs v → message_at xs ≡ Ok v
unfolding message_at
message_again xs v (limits, (parameters, are, whole)) =
    let r13 : List ℕ = parameters in
    let r12 : List ℕ = counted v.short_message ++ r13 in
    let r11 : List ℕ = v.sm_default_msg_id ∷ r12 in
    let r10 : List ℕ = v.data_coding ∷ r11 in
    let r9 : List ℕ = v.replace_if_present_flag ∷ r10 in
    let r8 : List ℕ = v.registered_delivery ∷ r9 in
    let r7 : List ℕ = c_string v.validity_period ++ r8 in
    let r6 : List ℕ = c_string v.schedule_delivery_time ++ r7 in
    let r5 : List ℕ = v.priority_flag ∷ r6 in
    let r4 : List ℕ = v.protocol_id ∷ r5 in
    let r3 : List ℕ = v.esm_class ∷ r4 in
    let r2 : List ℕ = address_octets v.destination ++ r3 in
    let r1 : List ℕ = address_octets v.source ++ r2 in
    rw (whole, c_string_again 6 v.service_type r1 limits.service_type, address_again v.source r2 limits.source, address_again v.destination r3 limits.destination, time_again v.schedule_delivery_time r7 limits.schedule_delivery_time, time_again v.validity_period r8 limits.validity_period, short_message_again v.short_message r13 limits.short_message, parameters_again parameters v.tlvs are) refl

pub message_resp_takes : (xs : List ℕ) (v : MessageResp) → AreOctets xs → message_resp_at xs ≡ Ok v → IsMessageResp xs v
unfolding message_resp_at
message_resp_takes xs v h e =
    went (c_string_in 65 xs) _ v e (λ s1 a1 b1.
    let p1 = c_string_takes 65 xs s1 h a1 in
    went (end_in BadLength s1.1) _ v b1 (λ t at bt.
    let none = end_takes BadLength s1.1 t at in
    let made : MessageResp = record { message_id = s1.0 } in
    let whole : xs ≡ message_resp_octets made = p1.1.parts ∙ ap (λ (l : List ℕ). c_string s1.0 ++ l) none ∙ append-nil (c_string s1.0) in
    subst (IsMessageResp xs) (ok_is {E = PduFault} made v bt) (p1.0, whole)))

pub message_resp_again : (xs : List ℕ) (v : MessageResp) → IsMessageResp xs v → message_resp_at xs ≡ Ok v
unfolding message_resp_at
message_resp_again xs v (limits, whole) =
    let last : c_string_in 65 (c_string v.message_id) ≡ Ok (v.message_id, []) = ap (c_string_in 65) (sym (append-nil (c_string v.message_id))) ∙ c_string_again 65 v.message_id [] limits in
    rw (whole, last) refl

pub query_takes : (xs : List ℕ) (v : QuerySm) → AreOctets xs → query_at xs ≡ Ok v → IsQuery xs v
unfolding query_at
query_takes xs v h e =
    went (c_string_in 65 xs) _ v e (λ s1 a1 b1.
    let p1 = c_string_takes 65 xs s1 h a1 in
    went (address_in s1.1) _ v b1 (λ s2 a2 b2.
    let p2 = address_takes s1.1 s2 p1.1.octets a2 in
    went (end_in BadLength s2.1) _ v b2 (λ t at bt.
    let none = end_takes BadLength s2.1 t at in
    let made : QuerySm = record { message_id = s1.0; source = s2.0 } in
    let whole : xs ≡ query_octets made = p1.1.parts ∙ ap (λ (l : List ℕ). c_string s1.0 ++ l) (p2.1.parts ∙ ap (λ (l : List ℕ). address_octets s2.0 ++ l) none ∙ append-nil (address_octets s2.0)) in
    let limits : IsQueryValue made = record { message_id = p1.0; source = p2.0 } in
    subst (IsQuery xs) (ok_is {E = PduFault} made v bt) (limits, whole))))

pub query_again : (xs : List ℕ) (v : QuerySm) → IsQuery xs v → query_at xs ≡ Ok v
unfolding query_at
query_again xs v (limits, whole) =
    let r1 : List ℕ = address_octets v.source in
    let last : address_in (address_octets v.source) ≡ Ok (v.source, []) = ap (address_in) (sym (append-nil (address_octets v.source))) ∙ address_again v.source [] limits.source in
    rw (whole, c_string_again 65 v.message_id r1 limits.message_id, last) refl

pub query_resp_takes : (xs : List ℕ) (v : QuerySmResp) → AreOctets xs → query_resp_at xs ≡ Ok v → IsQueryResp xs v
unfolding query_resp_at
query_resp_takes xs v h e =
    went (c_string_in 65 xs) _ v e (λ s1 a1 b1.
    let p1 = c_string_takes 65 xs s1 h a1 in
    went (time_in s1.1) _ v b1 (λ s2 a2 b2.
    let p2 = time_takes s1.1 s2 p1.1.octets a2 in
    went (octet_in Truncated s2.1) _ v b2 (λ s3 a3 b3.
    let p3 = one_takes Truncated s2.1 s3 p2.1.octets a3 in
    went (octet_in Truncated s3.1) _ v b3 (λ s4 a4 b4.
    let p4 = one_takes Truncated s3.1 s4 p3.1.octets a4 in
    went (end_in BadLength s4.1) _ v b4 (λ t at bt.
    let none = end_takes BadLength s4.1 t at in
    let made : QuerySmResp = record { message_id = s1.0; final_date = s2.0; message_state = s3.0; error_code = s4.0 } in
    let whole : xs ≡ query_resp_octets made = p1.1.parts ∙ ap (λ (l : List ℕ). c_string s1.0 ++ l) (p2.1.parts ∙ ap (λ (l : List ℕ). c_string s2.0 ++ l) (p3.1.parts ∙ ap (λ (l : List ℕ). s3.0 ∷ l) (p4.1.parts ∙ ap (λ (l : List ℕ). s4.0 ∷ l) none))) in
    let limits : IsQueryRespValue made = record { message_id = p1.0; final_date = p2.0 } in
    subst (IsQueryResp xs) (ok_is {E = PduFault} made v bt) (limits, whole))))))

pub query_resp_again : (xs : List ℕ) (v : QuerySmResp) → IsQueryResp xs v → query_resp_at xs ≡ Ok v
unfolding query_resp_at
query_resp_again xs v (limits, whole) =
    let r3 : List ℕ = v.error_code ∷ [] in
    let r2 : List ℕ = v.message_state ∷ r3 in
    let r1 : List ℕ = c_string v.final_date ++ r2 in
    rw (whole, c_string_again 65 v.message_id r1 limits.message_id, time_again v.final_date r2 limits.final_date) refl

pub cancel_takes : (xs : List ℕ) (v : CancelSm) → AreOctets xs → cancel_at xs ≡ Ok v → IsCancel xs v
unfolding cancel_at
cancel_takes xs v h e =
    went (c_string_in 6 xs) _ v e (λ s1 a1 b1.
    let p1 = c_string_takes 6 xs s1 h a1 in
    went (c_string_in 65 s1.1) _ v b1 (λ s2 a2 b2.
    let p2 = c_string_takes 65 s1.1 s2 p1.1.octets a2 in
    went (address_in s2.1) _ v b2 (λ s3 a3 b3.
    let p3 = address_takes s2.1 s3 p2.1.octets a3 in
    went (address_in s3.1) _ v b3 (λ s4 a4 b4.
    let p4 = address_takes s3.1 s4 p3.1.octets a4 in
    went (end_in BadLength s4.1) _ v b4 (λ t at bt.
    let none = end_takes BadLength s4.1 t at in
    let made : CancelSm = record { service_type = s1.0; message_id = s2.0; source = s3.0; destination = s4.0 } in
    let whole : xs ≡ cancel_octets made = p1.1.parts ∙ ap (λ (l : List ℕ). c_string s1.0 ++ l) (p2.1.parts ∙ ap (λ (l : List ℕ). c_string s2.0 ++ l) (p3.1.parts ∙ ap (λ (l : List ℕ). address_octets s3.0 ++ l) (p4.1.parts ∙ ap (λ (l : List ℕ). address_octets s4.0 ++ l) none ∙ append-nil (address_octets s4.0)))) in
    let limits : IsCancelValue made = record { service_type = p1.0; message_id = p2.0; source = p3.0; destination = p4.0 } in
    subst (IsCancel xs) (ok_is {E = PduFault} made v bt) (limits, whole))))))

pub cancel_again : (xs : List ℕ) (v : CancelSm) → IsCancel xs v → cancel_at xs ≡ Ok v
unfolding cancel_at
cancel_again xs v (limits, whole) =
    let r3 : List ℕ = address_octets v.destination in
    let last : address_in (address_octets v.destination) ≡ Ok (v.destination, []) = ap (address_in) (sym (append-nil (address_octets v.destination))) ∙ address_again v.destination [] limits.destination in
    let r2 : List ℕ = address_octets v.source ++ r3 in
    let r1 : List ℕ = c_string v.message_id ++ r2 in
    rw (whole, c_string_again 6 v.service_type r1 limits.service_type, c_string_again 65 v.message_id r2 limits.message_id, address_again v.source r3 limits.source, last) refl

-- What is written is in the grammar, and is read as the same value.
use Rattle.std.proofs.Common.{◌≡◌, ℕ, List, Some, None, Result, Ok, Err, refl, sym, ◌∙◌}
use Rattle.std.specs.Prelude.{IfOk}
use Rattle.std.specs.declared.alloc.AllocError.{AllocError}
use Rattle.sms_base.proofs.Steps.{ok_is}
use Rattle.smpp_pdu.specs.declared.fault.PduFault.{PduFault}
use Rattle.smpp_pdu.specs.declared.body.Body.{Body}
use Rattle.smpp_pdu.specs.declared.body.Body.TheVariants.{BindReceiver, BindTransmitter, BindTransceiver, SubmitSm, DeliverSm, QuerySm, CancelSm, Unbind, EnquireLink, GenericNack, BindReceiverResp, BindTransmitterResp, BindTransceiverResp, SubmitSmResp, DeliverSmResp, QuerySmResp, CancelSmResp, UnbindResp, EnquireLinkResp}
use Rattle.smpp_pdu.specs.declared.pdu.Pdu.{Pdu}
use Rattle.smpp_pdu.specs.PduGrammar.{IsBody, IsPdu}
use Rattle.smpp_pdu.specs.PduReading.{pdu_at}
use Rattle.smpp_pdu.specs.Writing.{written_tlvs, written_body, IsBodyValue, written, IsWritable}
use Rattle.smpp_pdu.proofs.TlvLaws.{written_parameters}
use Rattle.smpp_pdu.proofs.PduLaws.{pdu_again}

pub written_is_body : (b : Body) → IsBodyValue b → IsBody (written_body b) b
written_is_body (BindReceiver body) h = (h, refl)
written_is_body (BindTransmitter body) h = (h, refl)
written_is_body (BindTransceiver body) h = (h, refl)
written_is_body (SubmitSm m) h = (h, (written_tlvs m.tlvs, written_parameters m.tlvs, refl))
written_is_body (DeliverSm m) h = (h, (written_tlvs m.tlvs, written_parameters m.tlvs, refl))
written_is_body (QuerySm body) h = (h, refl)
written_is_body (CancelSm body) h = (h, refl)
written_is_body Unbind h = refl
written_is_body EnquireLink h = refl
written_is_body GenericNack h = refl
written_is_body (BindReceiverResp None) h = refl
written_is_body (BindReceiverResp (Some r)) h = (h, (written_tlvs r.tlvs, written_parameters r.tlvs, refl))
written_is_body (BindTransmitterResp None) h = refl
written_is_body (BindTransmitterResp (Some r)) h = (h, (written_tlvs r.tlvs, written_parameters r.tlvs, refl))
written_is_body (BindTransceiverResp None) h = refl
written_is_body (BindTransceiverResp (Some r)) h = (h, (written_tlvs r.tlvs, written_parameters r.tlvs, refl))
written_is_body (SubmitSmResp None) h = refl
written_is_body (SubmitSmResp (Some r)) h = (h, refl)
written_is_body (DeliverSmResp None) h = refl
written_is_body (DeliverSmResp (Some r)) h = (h, refl)
written_is_body (QuerySmResp None) h = refl
written_is_body (QuerySmResp (Some r)) h = (h, refl)
written_is_body CancelSmResp h = refl
written_is_body UnbindResp h = refl
written_is_body EnquireLinkResp h = refl

pub written_is_pdu : (p : Pdu) → IsWritable p → IsPdu (written p) p
written_is_pdu p h = (written_body p.body, written_is_body p.body h.fields, h.short, refl)

pub written_is_read : (p : Pdu) → IsWritable p → pdu_at (written p) ≡ Ok p
written_is_read p h = pdu_again (written p) p (written_is_pdu p h)

pub in_grammar : (r : Result (List ℕ) AllocError) (p : Pdu) → IsWritable p → IfOk r (λ octets. octets ≡ written p) → IfOk r (λ octets. IsPdu octets p)
in_grammar (Ok octets) p h e = rw e (written_is_pdu p h)
in_grammar (Err f) p h e = tt

pub read_again : (r : Result (List ℕ) AllocError) (p : Pdu) → IsWritable p → IfOk r (λ octets. octets ≡ written p) → IfOk r (λ octets. pdu_at octets ≡ Ok p)
read_again (Ok octets) p h e = rw e (written_is_read p h)
read_again (Err f) p h e = tt

pub one_value : (octets : List ℕ) (p q : Pdu) → IsPdu octets p → IsPdu octets q → p ≡ q
one_value octets p q hp hq = ok_is {E = PduFault} p q (sym (pdu_again octets p hp) ∙ pdu_again octets q hq)

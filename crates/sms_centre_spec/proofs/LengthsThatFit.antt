-- Which messages fit: 3040 septets make 20 parts, one more is refused, and a header leaves less room.
use Rattle.std.proofs.Common.{◌≡◌, ℕ, List, [], ◌∷◌, length, Some, refl}
use Rattle.std.specs.Prelude.{replicate}
use Rattle.smpp_pdu.specs.declared.status.CommandStatus.TheVariants.{ESME_RINVMSGLEN}
use Rattle.sms_centre_spec.specs.declared.answer.CentreAnswer.TheVariants.{Refused}
use Rattle.sms_centre_spec.specs.Draft.{Draft, core_of}
use Rattle.sms_centre_spec.specs.CentreEvent.{submit_received}
use Rattle.sms_centre_spec.proofs.Everything.{everything}
use Rattle.sms_centre_spec.proofs.Worked.{handset_b, begun, sm}

abbrev pub says : List ℕ → Draft
says = λ text. submit_received 0 (record (sm handset_b 0 0 1 [] [] 0) { tlvs = record (sm handset_b 0 0 1 [] [] 0).tlvs { message_payload = Some text } }) (begun [])

few : length (core_of (says (replicate 161 97))).rows.parts ≡ 2
unfolding everything
few = refl

most : length (core_of (says (replicate 3040 97))).rows.parts ≡ 20
unfolding everything
most = refl

too_many : (says (replicate 3041 97)).answer ≡ Some (Refused ESME_RINVMSGLEN)
unfolding everything
too_many = refl

empty : length (core_of (says [])).rows.parts ≡ 1
unfolding everything
empty = refl

odd : (submit_received 0 (sm handset_b 8 0 1 [] (4 ∷ []) 0) (begun [])).answer ≡ Some (Refused ESME_RINVMSGLEN)
unfolding everything
odd = refl

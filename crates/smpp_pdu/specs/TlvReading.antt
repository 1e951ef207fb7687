-- Reading optional parameters (SMPP v3.4 3.2.4.1): each begins where the one before it ends, and the last ends with the PDU.
use Rattle.std.specs.Prelude.{ℕ, zero, suc, List, [], ◌∷◌, length, Result, Ok, Err}
use Rattle.sms_base.specs.Reading.{◌>>=◌, run_in}
use Rattle.smpp_pdu.specs.declared.fault.PduFault.{PduFault}
use Rattle.smpp_pdu.specs.declared.fault.PduFault.TheVariants.{BadTlv}
use Rattle.smpp_pdu.specs.declared.tlv.Tlvs.{Tlvs}
use Rattle.smpp_pdu.specs.Tlvs.{Tlv, values_of}
use Rattle.smpp_pdu.specs.FieldReading.{two_in}

-- the parameter that is next: its tag, the length of its value, and its value
unfoldable pub tlv_in : List ℕ → Result (Tlv × List ℕ) PduFault
tlv_in octets = do
  tag ← two_in BadTlv octets
  len ← two_in BadTlv tag.1
  value ← run_in BadTlv len.0 len.1
  Ok ((tag.0, value.0), value.1)

-- the parameters that the octets are, of which there are at most so many
unfoldable pub parameters_in : ℕ → List ℕ → Result (List Tlv) PduFault
parameters_in zero [] = Ok []
parameters_in zero (octet ∷ rest) = Err BadTlv
parameters_in (suc most) [] = Ok []
parameters_in (suc most) (octet ∷ rest) = do
  tlv ← tlv_in (octet ∷ rest)
  tlvs ← parameters_in most tlv.1
  Ok (tlv.0 ∷ tlvs)

-- The values of the parameters that the octets are. There are no more parameters than octets.
unfoldable pub tlvs_at : List ℕ → Result Tlvs PduFault
tlvs_at octets = parameters_in (length octets) octets >>= (λ tlvs. Ok (values_of tlvs))

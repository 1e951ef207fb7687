-- The answer to a bind, laid by its parts.
use Rattle.std.proofs.Common.{◌≡◌, ℕ, Bool, true, false, cond, List, [], ◌∷◌, ◌++◌, refl, ap, ◌∙◌}
use Rattle.smpp_pdu.specs.declared.status.CommandStatus.TheVariants.{ESME_ROK}
use Rattle.smpp_pdu.specs.BodyGrammar.{bind_resp_octets}
use Rattle.smpp_pdu.specs.Fields.{four}
use Rattle.smpp_pdu.specs.PduGrammar.{pdu_octets}
use Rattle.smpp_pdu.specs.Tlvs.{tlv_octets}
use Rattle.smpp_session.specs.declared.action.BindKind.{BindKind}
use Rattle.smpp_session.specs.declared.action.BindKind.TheVariants.{Transmitter, Receiver, Transceiver}
use Rattle.smpp_session.specs.SessionTable.{accepting_bind, centre_name, resp_length, resp_octet, response, takes_parameters, version_parameter, with_bind_resp}

abbrev pub head : ℕ → ℕ → List ℕ
head length octet = 0 ∷ 0 ∷ 0 ∷ length ∷ 0x80 ∷ 0 ∷ 0 ∷ octet ∷ 0 ∷ 0 ∷ 0 ∷ 0 ∷ []

abbrev pub name : List ℕ
name = 0x73 ∷ 0x6D ∷ 0x73 ∷ 0x63 ∷ 0 ∷ []

by_takes : (b : Bool) (kind : BindKind) (number : ℕ) → (let tail : List ℕ = cond b (tlv_octets ((0x0210, 0x34 ∷ []) ∷ [])) [] in
    ((head (cond b 26 21) (resp_octet kind) ++ four number) ++ name) ++ tail ≡ pdu_octets (response (with_bind_resp kind centre_name) ESME_ROK number) (bind_resp_octets centre_name tail))
by_takes true Transmitter number = refl
by_takes true Receiver number = refl
by_takes true Transceiver number = refl
by_takes false Transmitter number = refl
by_takes false Receiver number = refl
by_takes false Transceiver number = refl

pub laid : (kind : BindKind) (version number : ℕ) → ((head (resp_length version) (resp_octet kind) ++ four number) ++ name) ++ version_parameter version ≡ accepting_bind kind version number
unfolding accepting_bind
laid kind version number = by_takes (takes_parameters version) kind number

pub laid_by : (kind : BindKind) (version number len octet : ℕ) (four_of first second third last : List ℕ) → len ≡ resp_length version → octet ≡ resp_octet kind → four_of ≡ four number
    → first ≡ head len octet → second ≡ first ++ four_of → third ≡ second ++ name → last ≡ third ++ version_parameter version → last ≡ accepting_bind kind version number
laid_by kind version number len octet four_of first second third last len_is octet_is four_is first_is second_is third_is last_is =
    let one : first ≡ head (resp_length version) (resp_octet kind) = first_is ∙ (ap (λ (n : ℕ). head n octet) len_is ∙ ap (head (resp_length version)) octet_is) in
    let two : second ≡ head (resp_length version) (resp_octet kind) ++ four number = second_is ∙ (ap (λ (os : List ℕ). os ++ four_of) one ∙ ap (λ (os : List ℕ). head (resp_length version) (resp_octet kind) ++ os) four_is) in
    last_is ∙ (ap (λ (os : List ℕ). os ++ version_parameter version) (third_is ∙ ap (λ (os : List ℕ). os ++ name) two) ∙ laid kind version number)

-- A STATUS-REPORT that says what its message does, and such as do not.
use Rattle.std.proofs.Common.{arith, ◌≡◌, length, refl, sym, ◌∙◌, ap}
use Rattle.std.proofs.lemmas.Option.{same_Some}
use Rattle.sms_base.specs.declared.address.Address.{Address}
use Rattle.sms_base.specs.declared.final_state.FinalState.{FinalState}
use Rattle.sms_base.specs.declared.final_state.FinalState.TheVariants.{Delivered}
use Rattle.sms_base.specs.declared.originator.Originator.{Originator}
use Rattle.sms_centre_spec.specs.Finals.{submit_reference}
use Rattle.sms_receipt.specs.StatusReports.{status_of}
use Rattle.sms_tpdu.specs.Codes.{status_octet}
use Rattle.sms_world.specs.wrong_reports.StatusReports.{DoneLaw, RecipientLaw, ReferenceLaw, RightLaw, StateLaw, SubmittedLaw}

pub right : RightLaw
right = record { reference = refl; recipient = refl; submitted = refl; done = refl; state = Delivered; ended = refl; status = refl }

pub reference : ReferenceLaw
reference k =
    let q : 7 ≡ 8 = ap (λ (o : Originator). submit_reference o) k.reference in
    let l : ⊥ = omega (arith, q) in l

pub recipient : RecipientLaw
recipient k =
    let q : 8 ≡ 12 = ap (λ (a : Address). length a.digits) k.recipient in
    let l : ⊥ = omega (arith, q) in l

pub submitted : SubmittedLaw
submitted k =
    let q : 946684801 ≡ 946684800 = k.submitted in
    let l : ⊥ = omega (arith, q) in l

pub done : DoneLaw
done k =
    let q : 946684860 ≡ 946684800 = same_Some 946684860 946684800 k.done in
    let l : ⊥ = omega (arith, q) in l

pub state : StateLaw
state k =
    let same : k.state ≡ Delivered = sym (same_Some Delivered k.state k.ended) in
    let q : 70 ≡ 0 = k.status ∙ ap (λ (s : FinalState). status_octet (status_of s)) same in
    let l : ⊥ = omega (arith, q) in l

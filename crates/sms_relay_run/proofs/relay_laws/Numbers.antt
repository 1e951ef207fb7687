-- The sender and the destination have numbers, and are two or one.
use Rattle.std.proofs.Common.{◌≡◌, List, [], ◌∷◌, ℕ, true, false, Option, Some, None, Result, Ok, Err, refl, sym, ◌∙◌, subst, ⊎_elim}
use Rattle.std.specs.Prelude.{IfSome}
use Rattle.std.specs.Str.{bytes_eq}
use Rattle.std.proofs.lemmas.Bool.{cond_both}
use Rattle.std.proofs.lemmas.Slice.Eq.{bytes_eq-Decides}
use Rattle.sms_base.specs.Among.{Among}
use Rattle.sms_base.specs.HandsetNumber.{names_handset}
use Rattle.sms_base.specs.Msisdn.{IsMsisdn}
use Rattle.sms_base.proofs.Msisdns.{is_number}
use Rattle.sms_base.specs.Reading.{AreOctets}
use Rattle.sms_base.specs.declared.address.Address.{Address}
use Rattle.sms_relay.specs.RelayReading.{up_at}
use Rattle.sms_relay.specs.declared.fault.RelayFault.{RelayFault}
use Rattle.sms_relay.specs.declared.frame.Rp.{Rp}
use Rattle.sms_relay.specs.declared.frame.Rp.TheVariants.{DataUnit, AckUnit, ErrorUnit, Smma}
use Rattle.sms_tpdu.specs.TpduReading.{up_at as tpdu_up_at}
use Rattle.sms_tpdu.specs.declared.carrier.Carrier.TheVariants.{InData}
use Rattle.sms_tpdu.specs.declared.fault.TpduFault.{TpduFault}
use Rattle.sms_tpdu.specs.declared.up.Up.{Up}
use Rattle.sms_tpdu.specs.declared.up.Up.TheVariants.{Submit, DeliverReport}
use Rattle.sms_tpdu.proofs.Carriers.{up_takes}
use Rattle.sms_centre_rows.specs.waiting.SoundAllocations.{IsNumber}
use Rattle.sms_centre_spec.specs.SoundCore.{AreDifferent}
use Rattle.sms_centre_spec.proofs.SubmitFits.{named_number}
use Rattle.sms_centre_spec.proofs.UnitOctets.{tpdu_octets}
use Rattle.sms_relay_run.specs.relay_laws.Relaying.{destination_in, destination_of, handsets_for, others_for}

abbrev HasNumber : Option Address → Type 0
HasNumber None = Unit {0}
HasNumber (Some to) = IsNumber to.digits

named : (tpdu : List ℕ) (q : Result Up TpduFault) → AreOctets tpdu → tpdu_up_at InData tpdu ≡ q → HasNumber (destination_in q)
named tpdu (Ok (Submit s)) are e =
    let is = up_takes InData tpdu (Submit s) are e in
    cond_both (names_handset s.destination_address) (Some s.destination_address) None HasNumber (λ t. named_number s.destination_address is.4.valid t) (λ t. tt)
named tpdu (Ok (DeliverReport r)) are e = tt
named tpdu (Err fault) are e = tt

unit_named : (unit : List ℕ) (q : Result Rp RelayFault) → AreOctets unit → up_at unit ≡ q → HasNumber (destination_of q)
unit_named unit (Ok (DataUnit reference centre tpdu)) are e = named tpdu (tpdu_up_at InData tpdu) (tpdu_octets unit tpdu centre reference are e) refl
unit_named unit (Ok (AckUnit reference tpdu)) are e = tt
unit_named unit (Ok (ErrorUnit reference cause tpdu)) are e = tt
unit_named unit (Ok (Smma reference)) are e = tt
unit_named unit (Err fault) are e = tt

among_others : (from : List ℕ) (to : Option Address) (number : List ℕ) → HasNumber to → Among number (others_for from to) → IsNumber number
among_others from None number is among = absurd among
among_others from (Some to) number is among =
    cond_both (bytes_eq from to.digits) [] (to.digits ∷ []) (λ (ns : List (List ℕ)). Among number ns → IsNumber number)
    (λ t a. absurd a)
    (λ t a. ⊎_elim (λ (e : number ≡ to.digits). subst (λ (n : List ℕ). IsNumber n) (sym e) is) (λ (b : ⊥). absurd b) a)
    among

pub are_numbers : (from unit : List ℕ) → IsNumber from → AreOctets unit → (number : List ℕ) → Among number (handsets_for from (destination_of (up_at unit))) → IsNumber number
are_numbers from unit is are number among = ⊎_elim
    (λ (e : number ≡ from). subst (λ (n : List ℕ). IsNumber n) (sym e) is)
    (λ (a : Among number (others_for from (destination_of (up_at unit)))). among_others from (destination_of (up_at unit)) number (unit_named unit (up_at unit) are refl) a)
    among

pub destination_named : (unit : List ℕ) → AreOctets unit → IfSome (destination_of (up_at unit)) (λ to. IsMsisdn to.digits)
destination_named unit are = by (destination_of (up_at unit)) (unit_named unit (up_at unit) are refl) where
  by : (o : Option Address) → HasNumber o → IfSome o (λ to. IsMsisdn to.digits)
  by None h = tt
  by (Some to) h = is_number to.digits h

pub are_different : (from : List ℕ) (to : Option Address) → AreDifferent (handsets_for from to)
are_different from None = (λ a. a, tt)
are_different from (Some to) =
    cond_both (bytes_eq from to.digits) [] (to.digits ∷ []) (λ (ns : List (List ℕ)). AreDifferent (from ∷ ns))
    (λ t. (λ a. a, tt))
    (λ t. (
      λ a. ⊎_elim (λ (e : from ≡ to.digits). let bad : true ≡ false = sym ((bytes_eq-Decides from to.digits).1 e) ∙ t in absurd cc) (λ (b : ⊥). absurd b) a,
      (λ a. a, tt),
    ))

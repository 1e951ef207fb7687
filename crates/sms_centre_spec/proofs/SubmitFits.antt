-- A SUBMIT that passed all checks is a submission that does: its user data is passed as it was read.
use Rattle.std.proofs.Common.{◌≡◌, ℕ, List, true, false, Option, Some, None, Result, Ok, Err, refl, sym, subst, ⊎_elim, arith}
use Rattle.std.specs.Prelude.{not, nat_lt}
use Rattle.std.specs.List.{list_all}
use Rattle.std.proofs.lemmas.Bool.{and_parts}
use Rattle.sms_base.specs.Address.{IsAddress}
use Rattle.sms_base.specs.AddressKind.{is_name, type_number}
use Rattle.sms_base.specs.declared.address.Address.{Address}
use Rattle.sms_base.specs.declared.type_of_number.TypeOfNumber.{TypeOfNumber}
use Rattle.sms_base.specs.declared.type_of_number.TypeOfNumber.TheVariants.{Unknown, International, National, NetworkSpecific, Subscriber, Alphanumeric, Abbreviated}
use Rattle.sms_base.specs.Reading.{AreOctets, only_if}
use Rattle.sms_base.proofs.Steps.{bind_ok, ok_is, passes}
use Rattle.sms_link.specs.declared.ending.Upward.{Upward}
use Rattle.sms_link.specs.declared.ending.Upward.TheVariants.{Opened, Ended}
use Rattle.sms_link.specs.LinkTurn.{taken}
use Rattle.sms_relay.specs.declared.fault.RelayFault.{RelayFault}
use Rattle.sms_relay.specs.declared.frame.Rp.{Rp}
use Rattle.sms_relay.specs.declared.frame.Rp.TheVariants.{DataUnit, AckUnit, ErrorUnit, Smma}
use Rattle.sms_relay.specs.RelayReading.{up_at}
use Rattle.sms_tpdu.specs.declared.carrier.Carrier.TheVariants.{InData}
use Rattle.sms_tpdu.specs.declared.fault.TpduFault.{TpduFault}
use Rattle.sms_tpdu.specs.declared.submit.Submit.{Submit as SubmitOf}
use Rattle.sms_tpdu.specs.declared.up.Up.{Up}
use Rattle.sms_tpdu.specs.declared.up.Up.TheVariants.{Submit, DeliverReport}
use Rattle.sms_tpdu.specs.TpduGrammar.{IsSubmit}
use Rattle.sms_tpdu.specs.TpduReading.{up_at as tpdu_up_at}
use Rattle.sms_tpdu.proofs.Carriers.{up_takes}
use Rattle.sms_centre_rows.specs.declared.waiting.handset_link.HandsetLink.{HandsetLink}
use Rattle.sms_centre_rows.specs.waiting.SoundAllocations.{IsNumber}
use Rattle.sms_intake.specs.declared.refusal.SubmitRefusal.{SubmitRefusal}
use Rattle.sms_intake.specs.declared.refusal.SubmitRefusal.TheVariants.{NoHandset, OfAccount, PastLimit}
use Rattle.sms_intake.specs.declared.submission.SinglePart.{SinglePart}
use Rattle.sms_intake.specs.declared.submission.Submission.{Submission}
use Rattle.sms_intake.specs.HandsetIntake.{from_read, from_submit, is_of_account, is_past, submission_of}
use Rattle.sms_intake.specs.declared.submission.CentreAccount.{CentreAccount}
use Rattle.sms_base.specs.HandsetNumber.{is_decimal, names_handset}
use Rattle.sms_centre_spec.specs.Consistent.{IsBody, IsSubmission}
use Rattle.sms_centre_spec.specs.Submitted.{UnitGives, UpGives}
use Rattle.sms_centre_spec.proofs.UnitOctets.{opened_octets, tpdu_octets}

-- ---- the number of a handset that an address names

plain : (ton : TypeOfNumber) → nat_lt (type_number ton) 3 ≡ true → is_name ton ≡ false
plain Unknown e = refl
plain International e = refl
plain National e = refl
plain NetworkSpecific e = absurd cc
plain Subscriber e = absurd cc
plain Alphanumeric e = absurd cc
plain Abbreviated e = absurd cc

pub named_number : (a : Address) → IsAddress a → names_handset a ≡ true → IsNumber a.digits
named_number a is named =
    let number : is_name a.ton ≡ false = plain a.ton (and_parts (nat_lt (type_number a.ton) 3) (list_all is_decimal a.digits) named).0 in
    record {
      npi = omega arith;
      digits = record { some = is.digits.some; number = λ e. is.digits.number number; name = λ e. absurd cc };
    }

-- ---- a SUBMIT

submit_fits : (accounts : List CentreAccount) (from : List ℕ) (now : ℕ) (s : SubmitOf) (octets : List ℕ) (u : Submission) → IsNumber from → IsSubmit octets s → from_submit accounts from now s ≡ Ok u → IsSubmission u
unfolding from_submit
submit_fits accounts from now s octets u is submit e =
    let a = bind_ok (only_if (names_handset s.destination_address) NoHandset) _ u e in
    let c = bind_ok (only_if (not (is_of_account s.destination_address.digits accounts)) OfAccount) _ u a.2 in
    let b = bind_ok (only_if (not (is_past now s.validity_period)) PastLimit) _ u c.2 in
    let named = passes (names_handset s.destination_address) NoHandset a.0 a.1 in
    let same : submission_of from now s ≡ u = ok_is {E = SubmitRefusal} (submission_of from now s) u b.2 in
    let fits : IsSubmission (submission_of from now s) = record {
      source = is;
      handset = named_number s.destination_address submit.4.valid named;
      report_address = is;
      priority = omega arith;
      some = λ reference. omega arith;
      few = λ reference. omega arith;
      bodies = λ reference body among. ⊎_elim
          (λ (q : body ≡ _). subst (λ (x : SinglePart). IsBody (submission_of from now s) x) (sym q) (record { fields = submit.6; scheme = refl }))
          (λ (b : ⊥). absurd b)
          among;
    } in
    subst (λ (x : Submission). IsSubmission x) same fits

pub tpdu_fits : (accounts : List CentreAccount) (from : List ℕ) (now : ℕ) (tpdu : List ℕ) (r : Result Up TpduFault) (u : Submission) → IsNumber from → AreOctets tpdu → tpdu_up_at InData tpdu ≡ r → from_read accounts from now r ≡ Ok u → IsSubmission u
tpdu_fits accounts from now tpdu (Ok (Submit s)) u is are e f = submit_fits accounts from now s tpdu u is (up_takes InData tpdu (Submit s) are e) f
tpdu_fits accounts from now tpdu (Ok (DeliverReport r)) u is are e f = absurd cc
tpdu_fits accounts from now tpdu (Err fault) u is are e f = absurd cc

-- ---- what goes up from a link

unit_fits : (accounts : List CentreAccount) (from : List ℕ) (now : ℕ) (unit : List ℕ) (r : Result Rp RelayFault) → IsNumber from → AreOctets unit → up_at unit ≡ r → UnitGives accounts from now r
unit_fits accounts from now unit (Ok (DataUnit reference centre tpdu)) is are e =
    λ u f. tpdu_fits accounts from now tpdu (tpdu_up_at InData tpdu) u is (tpdu_octets unit tpdu centre reference are e) refl f
unit_fits accounts from now unit (Ok (AckUnit reference tpdu)) is are e = tt
unit_fits accounts from now unit (Ok (ErrorUnit reference cause tpdu)) is are e = tt
unit_fits accounts from now unit (Ok (Smma reference)) is are e = tt
unit_fits accounts from now unit (Err fault) is are e = tt

up_fits : (accounts : List CentreAccount) (from : List ℕ) (now : ℕ) (o : Option Upward) → IsNumber from → ((unit : List ℕ) → o ≡ Some (Opened unit) → AreOctets unit) → UpGives accounts from now o
up_fits accounts from now None is are = tt
up_fits accounts from now (Some (Opened unit)) is are = unit_fits accounts from now unit (up_at unit) is (are unit refl) refl
up_fits accounts from now (Some (Ended transfer ending)) is are = tt

pub frame_fits : (accounts : List CentreAccount) (l : HandsetLink) (now : ℕ) (frame : List ℕ) → IsNumber l.handset → AreOctets frame → UpGives accounts l.handset now (taken frame l.near_end).out.up
frame_fits accounts l now frame is are = up_fits accounts l.handset now (taken frame l.near_end).out.up is (λ unit e. opened_octets l.near_end unit frame are e)

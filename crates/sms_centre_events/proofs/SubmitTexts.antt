-- A SUBMIT is one part of a handset.
use Rattle.std.proofs.Common.{◌≡◌, ℕ, List, Result, Ok, Err, subst}
use Rattle.std.specs.Prelude.{not}
use Rattle.sms_base.specs.HandsetNumber.{names_handset}
use Rattle.sms_base.specs.Reading.{only_if}
use Rattle.sms_base.proofs.Steps.{bind_ok, ok_is}
use Rattle.sms_tpdu.specs.declared.fault.TpduFault.{TpduFault}
use Rattle.sms_tpdu.specs.declared.submit.Submit.{Submit as SubmitOf}
use Rattle.sms_tpdu.specs.declared.up.Up.{Up}
use Rattle.sms_tpdu.specs.declared.up.Up.TheVariants.{Submit, DeliverReport}
use Rattle.sms_intake.specs.declared.refusal.SubmitRefusal.{SubmitRefusal}
use Rattle.sms_intake.specs.declared.refusal.SubmitRefusal.TheVariants.{NoHandset, OfAccount, PastLimit}
use Rattle.sms_intake.specs.declared.submission.Submission.{Submission}
use Rattle.sms_intake.specs.PartBodies.{HasUnits}
use Rattle.sms_intake.specs.HandsetIntake.{from_read, from_submit, is_of_account, is_past, submission_of}
use Rattle.sms_intake.specs.declared.submission.CentreAccount.{CentreAccount}
use Rattle.sms_centre_events.specs.Answering.{IsOfHandset}

submit_of : (accounts : List CentreAccount) (from : List ℕ) (now : ℕ) (s : SubmitOf) (u : Submission) → from_submit accounts from now s ≡ Ok u → HasUnits u.text × IsOfHandset u.originator
unfolding from_submit
submit_of accounts from now s u e =
    let a = bind_ok (only_if (names_handset s.destination_address) NoHandset) _ u e in
    let c = bind_ok (only_if (not (is_of_account s.destination_address.digits accounts)) OfAccount) _ u a.2 in
    let b = bind_ok (only_if (not (is_past now s.validity_period)) PastLimit) _ u c.2 in
    let same : submission_of from now s ≡ u = ok_is {E = SubmitRefusal} (submission_of from now s) u b.2 in
    let one : HasUnits (submission_of from now s).text × IsOfHandset (submission_of from now s).originator = (tt, tt) in
    subst (λ (x : Submission). HasUnits x.text × IsOfHandset x.originator) same one

pub read_submits : (accounts : List CentreAccount) (from : List ℕ) (now : ℕ) (r : Result Up TpduFault) (u : Submission) → from_read accounts from now r ≡ Ok u → HasUnits u.text × IsOfHandset u.originator
read_submits accounts from now (Ok (Submit s)) u e = submit_of accounts from now s u e
read_submits accounts from now (Ok (DeliverReport r)) u e = absurd cc
read_submits accounts from now (Err fault) u e = absurd cc

-- A request of an account that is there is not answered ESME_RSYSERR.
use Rattle.std.proofs.Common.{◌≡◌, ℕ, suc, ◌+◌, List, [], ◌∷◌, Option, Some, None, Result, Ok, Err, refl, ◌∙◌, ap, arith}
use Rattle.std.specs.Str.{bytes_eq}
use Rattle.std.proofs.lemmas.Bool.{cond_both}
use Rattle.sms_base.specs.declared.final_state.FinalState.TheVariants.{Deleted}
use Rattle.smpp_pdu.specs.declared.cancel.CancelSm.{CancelSm}
use Rattle.smpp_pdu.specs.declared.message.Message.{Message}
use Rattle.smpp_pdu.specs.declared.query.QuerySm.{QuerySm}
use Rattle.smpp_pdu.specs.declared.status.CommandStatus.{CommandStatus}
use Rattle.smpp_pdu.specs.declared.status.CommandStatus.TheVariants.{ESME_RCANCELFAIL, ESME_RSUBMITFAIL, ESME_RSYSERR}
use Rattle.sms_intake.specs.declared.submission.CentreAccount.{CentreAccount}
use Rattle.sms_intake.specs.declared.submission.Submission.{Submission}
use Rattle.sms_intake.specs.SmppIntake.{from_pdu, is_empty, source_in}
use Rattle.sms_centre_rows.specs.declared.messages.message.MessageRow.{MessageRow}
use Rattle.sms_centre_rows.specs.messages.Messages.{is_pending}
use Rattle.sms_centre_spec.specs.declared.answer.CentreAnswer.{CentreAnswer}
use Rattle.sms_centre_spec.specs.declared.answer.CentreAnswer.TheVariants.{Cancelled, Refused}
use Rattle.sms_centre_spec.specs.Draft.{Draft, Store, answer_with, in_store, messages_in, rows_of}
use Rattle.sms_centre_spec.specs.MessageNumbers.{next_number}
use Rattle.sms_centre_spec.specs.Ends.{end}
use Rattle.sms_centre_spec.specs.Numbers.{id_in}
use Rattle.sms_centre_spec.specs.Requests.{account_at, accepted, cancel_by, cancelled, message_numbered, own_message, queried, query_by, refused, submission_received, submit_by, to_cancel}
use Rattle.sms_centre_spec.specs.Shares.{unless_too_much}
use Rattle.sms_centre_spec.specs.Submitting.{accept, is_reference_taken}
use Rattle.sms_play.specs.Meeting.{account_from}
use Rattle.sms_play.proofs.answers.Checks.{IsOther, pdu_other}

-- the answer is not that
abbrev pub IsOtherAnswer : Option CentreAnswer → Type 0
IsOtherAnswer o = o ≡ Some (Refused ESME_RSYSERR) → ⊥

-- ---- an account that a name has is at its place

steps : (place i : ℕ) (name : List ℕ) (accounts : List CentreAccount) → account_from place name accounts ≡ Some i → (k : ℕ) × ((i ≡ place + k) × ((a : CentreAccount) × (account_at k accounts ≡ Some a)))
steps place i name [] e = absurd cc
steps place i name (a ∷ others) e =
    cond_both (bytes_eq a.name name) (Some place) (account_from (place + 1) name others)
    (λ (o : Option ℕ). o ≡ Some i → (k : ℕ) × ((i ≡ place + k) × ((b : CentreAccount) × (account_at k (a ∷ others) ≡ Some b))))
    (λ t q. let same : i ≡ place = cc q in (0, (same ∙ none_more place, (a, refl))))
    (λ t q. let x = steps (place + 1) i name others q in (suc x.0, (x.1.0 ∙ one_more place x.0, x.1.1)))
    e
  where
    none_more : (p : ℕ) → p ≡ p + 0
    none_more p = omega arith

    one_more : (p k : ℕ) → p + 1 + k ≡ p + suc k
    one_more p k = omega arith

pub account_there : (place : ℕ) (name : List ℕ) (accounts : List CentreAccount) → account_from 0 name accounts ≡ Some place → (a : CentreAccount) × (account_at place accounts ≡ Some a)
account_there place name accounts e =
    let x = steps 0 place name accounts e in
    let same : place ≡ x.0 = from_none place x.0 x.1.0 in
    (x.1.1.0, ap (λ (k : ℕ). account_at k accounts) same ∙ x.1.1.1)
  where
    from_none : (p k : ℕ) → p ≡ 0 + k → p ≡ k
    from_none p k e = omega (arith, e)

-- ---- submit_sm

accepted_other : (id : ℕ) (o : Option Store) (d : Draft) → IsOtherAnswer (accepted id o d).answer
accepted_other id None d e = cc
accepted_other id (Some s) d e = cc

arrived_other : (r : Result Submission CommandStatus) (d : Draft) → IsOther r → IsOtherAnswer (submission_received r d).answer
arrived_other (Err status) d other e = let same : status ≡ ESME_RSYSERR = cc in other (ap (λ (s : CommandStatus). Err s) same)
arrived_other (Ok u) d other e =
    let n : ℕ = next_number (rows_of d.store) in
    cond_both (is_reference_taken u d.store) (refused ESME_RSUBMITFAIL d) (accepted n (unless_too_much u (accept u d.store)) d) (λ (x : Draft). IsOtherAnswer x.answer) (λ t q. cc q)
    (λ t. accepted_other n (unless_too_much u (accept u d.store)) d) e

pub submit_other : (o : Option CentreAccount) (a : CentreAccount) (m : Message) (d : Draft) → o ≡ Some a → IsOtherAnswer (submit_by o m d).answer
submit_other None a m d there e = cc
submit_other (Some x) a m d there e = arrived_other (from_pdu x d.store.moment m) d (pdu_other x d.store.moment m) e

-- ---- query_sm

queried_other : (o : Option MessageRow) (d : Draft) → IsOtherAnswer (queried o d).answer
queried_other None d e = cc
queried_other (Some m) d e = cc

pub query_other : (o : Option CentreAccount) (a : CentreAccount) (q : QuerySm) (d : Draft) → o ≡ Some a → IsOtherAnswer (query_by o q d).answer
query_other None a q d there e = cc
query_other (Some x) a q d there e = queried_other (own_message x (source_in x.address q.source) (message_numbered (id_in q.message_id) (messages_in d.store))) d e

-- ---- cancel_sm

cancelled_other : (o : Option MessageRow) (d : Draft) → IsOtherAnswer (cancelled o d).answer
cancelled_other None d e = cc
cancelled_other (Some m) d e =
    cond_both (is_pending m) (answer_with Cancelled (in_store (end Deleted m d.store) d)) (refused ESME_RCANCELFAIL d) (λ (x : Draft). IsOtherAnswer x.answer) (λ t q. cc q) (λ t q. cc q) e

pub cancel_other : (o : Option CentreAccount) (a : CentreAccount) (q : CancelSm) (d : Draft) → o ≡ Some a → IsOtherAnswer (cancel_by o q d).answer
cancel_other None a q d there e = cc
cancel_other (Some x) a q d there e =
    let m : Option MessageRow = to_cancel x q (messages_in d.store) in
    cond_both (is_empty q.message_id) (refused ESME_RCANCELFAIL d) (cancelled m d) (λ (y : Draft). IsOtherAnswer y.answer) (λ t r. cc r) (λ t. cancelled_other m d) e

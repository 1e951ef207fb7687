-- A query_sm or a cancel_sm that is refused: the draft is the one in which it is refused, and nothing else.
use Rattle.std.proofs.Common.{◌≡◌, ℕ, Bool, true, false, Option, Some, None, ap}
use Rattle.std.specs.Prelude.{if◌then◌else◌}
use Rattle.sms_base.specs.declared.final_state.FinalState.TheVariants.{Deleted}
use Rattle.smpp_pdu.specs.declared.cancel.CancelSm.{CancelSm}
use Rattle.smpp_pdu.specs.declared.query.QuerySm.{QuerySm}
use Rattle.smpp_pdu.specs.declared.status.CommandStatus.{CommandStatus}
use Rattle.smpp_pdu.specs.declared.status.CommandStatus.TheVariants.{ESME_RCANCELFAIL, ESME_RINVMSGID, ESME_RSYSERR}
use Rattle.sms_centre_rows.specs.declared.messages.message.MessageRow.{MessageRow}
use Rattle.sms_centre_rows.specs.messages.Messages.{is_pending}
use Rattle.sms_intake.specs.declared.submission.CentreAccount.{CentreAccount}
use Rattle.sms_intake.specs.SmppIntake.{is_empty, source_in}
use Rattle.sms_centre_spec.specs.declared.answer.CentreAnswer.TheVariants.{Cancelled}
use Rattle.sms_centre_spec.specs.Draft.{Core, Draft, answer_with, draft_of, in_store, messages_in}
use Rattle.sms_centre_spec.specs.Ends.{end}
use Rattle.sms_centre_spec.specs.Numbers.{id_in}
use Rattle.sms_centre_spec.specs.Requests.{account_at, cancel, cancel_by, cancel_refusal, cancelled, message_numbered, own_message, queried, query, query_by, query_refusal, refused, status_in, to_cancel}

refused_with : (d : Draft) (own status : CommandStatus) → Some own ≡ Some status → refused own d ≡ refused status d
refused_with d own status e = let same : own ≡ status = cc in ap (λ (s : CommandStatus). refused s d) same

-- ---- query_sm

queried_so : (found : Option MessageRow) (d : Draft) (status : CommandStatus) → status_in (queried found d).answer ≡ Some status → queried found d ≡ refused status d
queried_so None d status e = refused_with d ESME_RINVMSGID status e
queried_so (Some m) d status e = absurd cc

query_by_so : (account : Option CentreAccount) (q : QuerySm) (d : Draft) (status : CommandStatus) → status_in (query_by account q d).answer ≡ Some status → query_by account q d ≡ refused status d
query_by_so None q d status e = refused_with d ESME_RSYSERR status e
query_by_so (Some account) q d status e =
    queried_so (own_message account (source_in account.address q.source) (message_numbered (id_in q.message_id) (messages_in d.store))) d status e

pub query_refused : (account : ℕ) (q : QuerySm) (c : Core) (status : CommandStatus) → query_refusal account q c ≡ Some status → query account q (draft_of c) ≡ refused status (draft_of c)
query_refused account q c status e = query_by_so (account_at account c.rows.setup.accounts) q (draft_of c) status e

-- ---- cancel_sm

cancelled_so : (found : Option MessageRow) (d : Draft) (status : CommandStatus) → status_in (cancelled found d).answer ≡ Some status → cancelled found d ≡ refused status d
cancelled_so None d status e = refused_with d ESME_RINVMSGID status e
cancelled_so (Some m) d status e = by (is_pending m) e where
  by : (b : Bool) → status_in (if b then answer_with Cancelled (in_store (end Deleted m d.store) d) else refused ESME_RCANCELFAIL d).answer ≡ Some status
      → (if b then answer_with Cancelled (in_store (end Deleted m d.store) d) else refused ESME_RCANCELFAIL d) ≡ refused status d
  by true f = absurd cc
  by false f = refused_with d ESME_RCANCELFAIL status f

cancel_by_so : (account : Option CentreAccount) (x : CancelSm) (d : Draft) (status : CommandStatus) → status_in (cancel_by account x d).answer ≡ Some status → cancel_by account x d ≡ refused status d
cancel_by_so None x d status e = refused_with d ESME_RSYSERR status e
cancel_by_so (Some account) x d status e = by (is_empty x.message_id) e where
  by : (b : Bool) → status_in (if b then refused ESME_RCANCELFAIL d else cancelled (to_cancel account x (messages_in d.store)) d).answer ≡ Some status
      → (if b then refused ESME_RCANCELFAIL d else cancelled (to_cancel account x (messages_in d.store)) d) ≡ refused status d
  by true f = refused_with d ESME_RCANCELFAIL status f
  by false f = cancelled_so (to_cancel account x (messages_in d.store)) d status f

pub cancel_refused : (account : ℕ) (x : CancelSm) (c : Core) (status : CommandStatus) → cancel_refusal account x c ≡ Some status → cancel account x (draft_of c) ≡ refused status (draft_of c)
cancel_refused account x c status e = cancel_by_so (account_at account c.rows.setup.accounts) x (draft_of c) status e

-- What asks nothing of the centre is answered nothing, and each request is answered.
use Rattle.std.proofs.Common.{◌≡◌, ℕ, List, Bool, true, false, Option, Some, None, Result, Ok, Err, refl, ◌∙◌}
use Rattle.std.specs.Prelude.{if◌then◌else◌}
use Rattle.std.specs.Option.{is_some}
use Rattle.std.proofs.lemmas.Bool.{cond_both}
use Rattle.sms_base.specs.declared.final_state.FinalState.TheVariants.{Deleted}
use Rattle.sms_base.specs.declared.holder.Holder.{Holder}
use Rattle.sms_rows.specs.table.Table.{row_at}
use Rattle.smpp_pdu.specs.declared.cancel.CancelSm.{CancelSm}
use Rattle.smpp_pdu.specs.declared.message.Message.{Message}
use Rattle.smpp_pdu.specs.declared.query.QuerySm.{QuerySm}
use Rattle.smpp_pdu.specs.declared.status.CommandStatus.{CommandStatus}
use Rattle.smpp_pdu.specs.declared.status.CommandStatus.TheVariants.{ESME_RCANCELFAIL, ESME_RSUBMITFAIL}
use Rattle.sms_link.specs.declared.ending.Upward.{Upward}
use Rattle.sms_link.specs.declared.ending.Upward.TheVariants.{Opened, Ended}
use Rattle.sms_link.specs.LinkTurn.{taken}
use Rattle.sms_relay.specs.declared.fault.RelayFault.{RelayFault}
use Rattle.sms_relay.specs.declared.frame.Rp.{Rp}
use Rattle.sms_relay.specs.declared.frame.Rp.TheVariants.{DataUnit, AckUnit, ErrorUnit, Smma}
use Rattle.sms_relay.specs.RelayReading.{up_at}
use Rattle.sms_tpdu.specs.declared.carrier.Carrier.TheVariants.{InData}
use Rattle.sms_tpdu.specs.TpduReading.{up_at as tpdu_up_at}
use Rattle.sms_centre_rows.specs.declared.messages.message.MessageRow.{MessageRow}
use Rattle.sms_centre_rows.specs.declared.waiting.handset_link.HandsetLink.{HandsetLink}
use Rattle.sms_centre_rows.specs.messages.Messages.{is_pending}
use Rattle.sms_centre_rows.specs.messages.SplitReferences.{is_among}
use Rattle.sms_centre_rows.specs.reports.Receipts.{Session, answered_in, session_key}
use Rattle.sms_centre_rows.specs.waiting.Links.{link_of, lowered, put_link, turn_link}
use Rattle.sms_intake.specs.HandsetIntake.{from_read}
use Rattle.sms_intake.specs.SmppIntake.{from_pdu, is_empty, source_in}
use Rattle.sms_intake.specs.declared.refusal.SubmitRefusal.{SubmitRefusal}
use Rattle.sms_intake.specs.declared.refusal.SubmitRefusal.TheVariants.{Duplicate, ReferenceTaken}
use Rattle.sms_intake.specs.declared.submission.CentreAccount.{CentreAccount}
use Rattle.sms_intake.specs.declared.submission.Submission.{Submission}
use Rattle.sms_centre_spec.specs.declared.answer.CentreAnswer.TheVariants.{Cancelled}
use Rattle.sms_centre_spec.specs.declared.event.CentreEvent.TheVariants.{Submit, Query, Cancel, Bound, Unbound, DeliverAnswered, Frame, LinkUp, LinkDown, Tick}
use Rattle.sms_centre_spec.specs.CentreEvent.{aged, at_moment, fired, happened, lost, tag_of, went_up}
use Rattle.sms_centre_spec.specs.Draft.{Core, Draft, Store, answer_with, draft_of, in_store, messages_in, on_links, rows_of}
use Rattle.sms_centre_spec.specs.Ends.{end}
use Rattle.sms_centre_spec.specs.MessageNumbers.{next_number}
use Rattle.sms_centre_spec.specs.Numbers.{id_in}
use Rattle.sms_centre_spec.specs.Receiving.{is_duplicate, refuse, submit_accepted, submit_received, unit_received}
use Rattle.sms_centre_spec.specs.Requests.{accepted, account_at, cancel_by, cancelled, message_numbered, own_message, queried, query_by, refused, submission_received, submit_by, to_cancel}
use Rattle.sms_centre_spec.specs.Sessions.{answered_by, bound_as, receipt_answered, unbind, unbound_from}
use Rattle.sms_centre_spec.specs.Shares.{unless_too_much}
use Rattle.sms_centre_spec.specs.Submitting.{accept, is_reference_taken}
use Rattle.sms_centre_spec.proofs.Ticking.{fired_says, raised_says}
use Rattle.sms_base.specs.declared.carried.Carried.{Carried}

-- the stage has answered nothing more
abbrev Leaves : Draft → Draft → Type 0
Leaves e d = e.answer ≡ d.answer

submit_leaves : (h : List ℕ) (n : ℕ) (tag : Holder) (o : Option Store) (d : Draft) → Leaves (submit_accepted h n tag o d) d
submit_leaves h n tag None d = refl
submit_leaves h n tag (Some s) d = refl

arrived_leaves : (h : List ℕ) (n : ℕ) (tag : Holder) (r : Result Submission SubmitRefusal) (d : Draft) → Leaves (submit_received h n tag r d) d
arrived_leaves h n tag (Err refusal) d = refl
arrived_leaves h n tag (Ok u) d =
    cond_both (is_duplicate u d.store) (refuse h n tag Duplicate d) (if is_reference_taken u d.store then refuse h n tag ReferenceTaken d else submit_accepted h n tag (accept u d.store) d) (λ (e : Draft). Leaves e d)
    (λ t. refl)
    (λ t. cond_both (is_reference_taken u d.store) (refuse h n tag ReferenceTaken d) (submit_accepted h n tag (accept u d.store) d) (λ (e : Draft). Leaves e d) (λ b. refl) (λ b. submit_leaves h n tag (accept u d.store) d))

unit_leaves : (h : List ℕ) (tag : Holder) (unit : List ℕ) (r : Result Rp RelayFault) (d : Draft) → Leaves (unit_received h tag unit r d) d
unit_leaves h tag unit (Ok (DataUnit n centre tpdu)) d = arrived_leaves h n tag (from_read d.store.setup.accounts h d.store.moment (tpdu_up_at InData tpdu)) d
unit_leaves h tag unit (Ok (AckUnit n tpdu)) d = refl
unit_leaves h tag unit (Ok (ErrorUnit n cause tpdu)) d = refl
unit_leaves h tag unit (Ok (Smma n)) d = refl
unit_leaves h tag unit (Err fault) d = refl

up_leaves : (h : List ℕ) (tag : Holder) (o : Option Upward) (d : Draft) → Leaves (went_up h tag o d) d
up_leaves h tag None d = refl
up_leaves h tag (Some (Opened unit)) d = unit_leaves h tag unit (up_at unit) d
up_leaves h tag (Some (Ended transfer ending)) d = refl

pub frame_unanswered : (handset octets : List ℕ) (tag : Option Holder) (c : Core) → (happened (Frame handset octets tag) c).answer ≡ None
frame_unanswered handset octets tag c =
    let l : HandsetLink = link_of handset c.links in
    let d : Draft = draft_of c in
    up_leaves l.handset (tag_of tag) (taken octets l.near_end).out.up (on_links (turn_link l (taken octets l.near_end) d.links) d)

-- ---- a tick

abbrev IsUnanswered : Draft → Type 0
IsUnanswered d = d.answer ≡ None

pub tick_unanswered : (now : ℕ) (c : Core) → (happened (Tick now) c).answer ≡ None
tick_unanswered now c =
    let a : Draft = aged (at_moment now (draft_of c)) in
    raised_says IsUnanswered (λ h d none. none) (fired a) (fired_says IsUnanswered (λ h t e d none. none) (λ links d none. none) a refl)

-- ---- a session binds, ends, or answers a receipt

unbound_leaves : (o : Option Session) (d : Draft) → Leaves (unbound_from o d) d
unbound_leaves None d = refl
unbound_leaves (Some session) d = refl

bound_leaves : (session : ℕ) (receives : Bool) (o : Option CentreAccount) (d : Draft) → Leaves (bound_as session receives o d) d
bound_leaves session receives None d = refl
bound_leaves session receives (Some account) d = refl

pub bound_unanswered : (session place : ℕ) (receives : Bool) (c : Core) → (happened (Bound session place receives) c).answer ≡ None
bound_unanswered session place receives c =
    let d : Draft = draft_of c in
    let e : Draft = unbind session d in
    bound_leaves session receives (account_at place d.store.setup.accounts) e ∙ unbound_leaves (row_at session_key session d.bindings.sessions) d

pub unbound_unanswered : (session : ℕ) (c : Core) → (happened (Unbound session) c).answer ≡ None
unbound_unanswered session c = unbound_leaves (row_at session_key session (draft_of c).bindings.sessions) (draft_of c)

answered_leaves : (id : ℕ) (is_accepted : Bool) (o : Option Session) (d : Draft) → Leaves (answered_by id is_accepted o d) d
answered_leaves id is_accepted None d = refl
answered_leaves id is_accepted (Some session) d =
    cond_both (is_among id session.unanswered) (record d { store = receipt_answered id is_accepted d.store; bindings = answered_in id session d.bindings }) d
    (λ (e : Draft). Leaves e d) (λ t. refl) (λ t. refl)

pub answered_unanswered : (session id : ℕ) (is_accepted : Bool) (c : Core) → (happened (DeliverAnswered session id is_accepted) c).answer ≡ None
answered_unanswered session id is_accepted c = answered_leaves id is_accepted (row_at session_key session (draft_of c).bindings.sessions) (draft_of c)

-- ---- a link

pub up_unanswered : (handset : List ℕ) (c : Core) → (happened (LinkUp handset) c).answer ≡ None
up_unanswered handset c = refl

lost_leaves : (handset : List ℕ) (o : Option Carried) (d : Draft) → Leaves (lost handset o d) d
lost_leaves handset None d = refl
lost_leaves handset (Some transfer) d = refl

pub down_unanswered : (handset : List ℕ) (c : Core) → (happened (LinkDown handset) c).answer ≡ None
down_unanswered handset c =
    let l : HandsetLink = link_of handset c.links in
    let d : Draft = draft_of c in
    lost_leaves l.handset l.near_end.under_way (on_links (put_link (lowered l) d.links) d)

-- ---- requests

abbrev Answers : Draft → Type 0
Answers d = is_some d.answer ≡ true

accepted_answers : (id : ℕ) (o : Option Store) (d : Draft) → Answers (accepted id o d)
accepted_answers id None d = refl
accepted_answers id (Some s) d = refl

received_answers : (r : Result Submission CommandStatus) (d : Draft) → Answers (submission_received r d)
received_answers (Err status) d = refl
received_answers (Ok u) d =
    cond_both (is_reference_taken u d.store) (refused ESME_RSUBMITFAIL d) (accepted (next_number (rows_of d.store)) (unless_too_much u (accept u d.store)) d) Answers
    (λ t. refl) (λ t. accepted_answers (next_number (rows_of d.store)) (unless_too_much u (accept u d.store)) d)

submit_answers : (a : Option CentreAccount) (m : Message) (d : Draft) → Answers (submit_by a m d)
submit_answers None m d = refl
submit_answers (Some a) m d = received_answers (from_pdu a d.store.moment m) d

pub submit_answered : (place : ℕ) (m : Message) (c : Core) → is_some (happened (Submit place m) c).answer ≡ true
submit_answered place m c = submit_answers (account_at place (draft_of c).store.setup.accounts) m (draft_of c)

queried_answers : (o : Option MessageRow) (d : Draft) → Answers (queried o d)
queried_answers None d = refl
queried_answers (Some m) d = refl

query_answers : (a : Option CentreAccount) (q : QuerySm) (d : Draft) → Answers (query_by a q d)
query_answers None q d = refl
query_answers (Some a) q d = queried_answers (own_message a (source_in a.address q.source) (message_numbered (id_in q.message_id) (messages_in d.store))) d

pub query_answered : (place : ℕ) (q : QuerySm) (c : Core) → is_some (happened (Query place q) c).answer ≡ true
query_answered place q c = query_answers (account_at place (draft_of c).store.setup.accounts) q (draft_of c)

cancelled_answers : (o : Option MessageRow) (d : Draft) → Answers (cancelled o d)
cancelled_answers None d = refl
cancelled_answers (Some m) d =
    cond_both (is_pending m) (answer_with Cancelled (in_store (end Deleted m d.store) d)) (refused ESME_RCANCELFAIL d) Answers (λ t. refl) (λ t. refl)

cancel_answers : (a : Option CentreAccount) (q : CancelSm) (d : Draft) → Answers (cancel_by a q d)
cancel_answers None q d = refl
cancel_answers (Some a) q d =
    cond_both (is_empty q.message_id) (refused ESME_RCANCELFAIL d) (cancelled (to_cancel a q (messages_in d.store)) d) Answers
    (λ t. refl) (λ t. cancelled_answers (to_cancel a q (messages_in d.store)) d)

pub cancel_answered : (place : ℕ) (q : CancelSm) (c : Core) → is_some (happened (Cancel place q) c).answer ≡ true
cancel_answered place q c = cancel_answers (account_at place (draft_of c).store.setup.accounts) q (draft_of c)

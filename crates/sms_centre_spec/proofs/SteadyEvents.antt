-- What is firm is kept by every event but an answer to a receipt, and what is steady by every event, where what it submits passed
-- all checks.
use Rattle.std.proofs.Common.{◌≡◌, ℕ, List, Bool, Option, Some, None, Result, Ok, Err, refl, arith}
use Rattle.std.proofs.lemmas.Bool.{cond_both}
use Rattle.std.specs.Prelude.{max, if◌then◌else◌}
use Rattle.sms_base.specs.declared.carried.Carried.{Carried}
use Rattle.sms_base.specs.declared.final_state.FinalState.TheVariants.{Deleted}
use Rattle.sms_base.specs.declared.holder.Holder.{Holder}
use Rattle.sms_base.specs.TimeStamp.{IsMoment}
use Rattle.sms_rows.specs.table.Table.{row_at}
use Rattle.sms_link.specs.declared.ending.Ending.{Ending}
use Rattle.sms_link.specs.declared.ending.Ending.TheVariants.{Lost}
use Rattle.sms_link.specs.declared.ending.Upward.{Upward}
use Rattle.sms_link.specs.declared.ending.Upward.TheVariants.{Opened, Ended}
use Rattle.sms_link.specs.LinkTurn.{taken}
use Rattle.sms_relay.specs.declared.fault.RelayFault.{RelayFault}
use Rattle.sms_relay.specs.declared.frame.Rp.{Rp}
use Rattle.sms_relay.specs.declared.frame.Rp.TheVariants.{DataUnit, AckUnit, ErrorUnit, Smma}
use Rattle.sms_relay.specs.RelayReading.{up_at}
use Rattle.sms_tpdu.specs.declared.carrier.Carrier.TheVariants.{InData}
use Rattle.sms_tpdu.specs.TpduReading.{up_at as tpdu_up_at}
use Rattle.smpp_pdu.specs.declared.cancel.CancelSm.{CancelSm}
use Rattle.smpp_pdu.specs.declared.message.Message.{Message}
use Rattle.smpp_pdu.specs.declared.query.QuerySm.{QuerySm}
use Rattle.smpp_pdu.specs.declared.status.CommandStatus.{CommandStatus}
use Rattle.sms_centre_rows.specs.declared.messages.message.MessageRow.{MessageRow}
use Rattle.sms_centre_rows.specs.messages.Messages.{is_pending, message_at}
use Rattle.sms_centre_rows.specs.messages.SplitReferences.{is_among}
use Rattle.sms_centre_rows.specs.reports.Receipts.{Session, session_key}
use Rattle.sms_centre_rows.specs.declared.waiting.handset_link.HandsetLink.{HandsetLink}
use Rattle.sms_centre_rows.specs.waiting.Links.{link_of, lowered, put_link, turn_link}
use Rattle.sms_intake.specs.HandsetIntake.{from_read}
use Rattle.sms_centre_spec.specs.declared.event.CentreEvent.{CentreEvent}
use Rattle.sms_centre_spec.specs.declared.event.CentreEvent.TheVariants.{Submit, Query, Cancel, Bound, Unbound, DeliverAnswered, Frame, LinkUp, LinkDown, Ordered, Tick}
use Rattle.sms_intake.specs.declared.refusal.SubmitRefusal.{SubmitRefusal}
use Rattle.sms_intake.specs.declared.refusal.SubmitRefusal.TheVariants.{Duplicate, ReferenceTaken}
use Rattle.sms_intake.specs.declared.submission.CentreAccount.{CentreAccount}
use Rattle.sms_intake.specs.declared.submission.Submission.{Submission}
use Rattle.sms_centre_spec.specs.Numbers.{id_in}
use Rattle.sms_intake.specs.SmppIntake.{from_pdu, source_in, is_empty}
use Rattle.sms_centre_spec.specs.Shares.{unless_too_much}
use Rattle.sms_centre_spec.specs.Submitting.{accept, is_reference_taken}
use Rattle.sms_centre_spec.specs.Transfers.{conclude}
use Rattle.sms_centre_spec.specs.Receiving.{due_now, is_duplicate, refuse, submit_accepted, submit_received as submission_from, unit_received}
use Rattle.sms_centre_spec.specs.Requests.{accepted, account_at, cancel_by, cancelled, message_numbered, own_message, queried, query_by, submission_received, submit_by, to_cancel}
use Rattle.sms_centre_spec.specs.declared.order.Order.{Order}
use Rattle.sms_centre_spec.specs.declared.order.Order.TheVariants.{Retry, Delete}
use Rattle.sms_centre_spec.specs.Orders.{ordered, parts_among, retried}
use Rattle.sms_centre_spec.specs.Sessions.{answered_by, bind, bound_as, due_for, receipt_answered, unbind, unbound_from}
use Rattle.sms_centre_spec.specs.CentreEvent.{tag_of, aged, at_moment, expired, fired, frame_taken, happened, lost, lower, raise, raised, went_up}
use Rattle.sms_centre_spec.specs.Draft.{Core, Draft, Store, draft_of, messages_in, on_links, rows_of, waiting_in}
use Rattle.sms_centre_spec.specs.MessageNumbers.{next_number}
use Rattle.sms_centre_spec.specs.Consistent.{IsSubmission}
use Rattle.sms_centre_spec.specs.Submitted.{AccountGives, EventGives, UnitGives, UpGives}
use Rattle.sms_centre_spec.proofs.Stages.{IfThere, unless_kept}
use Rattle.sms_centre_spec.proofs.Steady.{IsFirm, IsSteady, IsStill, all_due_firm, concluded_firm, due_now_firm, firm_of, message_own, still_of, to_cancel_there}
use Rattle.sms_centre_spec.proofs.SteadyTimes.{all_tried_firm, answered_steady, dropped_firm, due_for_firm, expired_firm}
use Rattle.sms_centre_spec.proofs.Ticking.{fired_says, raised_says}

-- an answer to a receipt keeps it
abbrev AnswerKeeps : (Store → Type 0) → ℕ → Bool → Type 0
AnswerKeeps P id b = (s : Store) → P s → P (receipt_answered id b s)

module _ (P : Store → Type 0) (c : IsFirm P) where
  conclude_steady : (h : List ℕ) (t : Carried) (e : Ending) (d : Draft) → P d.store → P (conclude h t e d).store
  conclude_steady h t e d k = concluded_firm P c t.tag e d.store k

  -- ---- links

  raise_steady : (h : List ℕ) (d : Draft) → P d.store → P (raise h d).store
  raise_steady h d k = due_now_firm P c (link_of h d.links.all).handset d.store k

  lost_steady : (h : List ℕ) (o : Option Carried) (d : Draft) → P d.store → P (lost h o d).store
  lost_steady h None d k = k
  lost_steady h (Some t) d k = conclude_steady h t Lost d k

  lower_steady : (h : List ℕ) (d : Draft) → P d.store → P (lower h d).store
  lower_steady h d k =
      let l : HandsetLink = link_of h d.links.all in lost_steady l.handset l.near_end.under_way (on_links (put_link (lowered l) d.links) d) k

  -- ---- a tick

  at_moment_steady : (now : ℕ) (s : Store) → P s → IsMoment s.moment → IsMoment now → P (record s { moment = max s.moment now })
  at_moment_steady now s k was is =
      c.later (max s.moment now) s k (omega arith) (record { from_2000 = (let w = was.from_2000 in omega (arith, w)); to_2099 = (let w = was.to_2099 in let i = is.to_2099 in omega (arith, w, i)) })

  ticked_steady : (now : ℕ) (d : Draft) → P d.store → IsMoment d.store.moment → IsMoment now → P (raised (fired (aged (at_moment now d)))).store
  ticked_steady now d k was is =
      let a : Draft = aged (at_moment now d) in
      let later = at_moment_steady now d.store k was is in
      raised_says (λ (e : Draft). P e.store) raise_steady (fired a)
      (fired_says (λ (e : Draft). P e.store) conclude_steady (λ links e kept. kept) a (dropped_firm P c (expired (at_moment now d).store) (expired_firm P c (at_moment now d).store later)))

  -- ---- sessions

  answered_by_steady : (id : ℕ) (b : Bool) → AnswerKeeps P id b → (o : Option Session) (d : Draft) → P d.store → P (answered_by id b o d).store
  answered_by_steady id b answers None d k = k
  answered_by_steady id b answers (Some session) d k =
      cond_both (is_among id session.unanswered) _ d (λ (e : Draft). P e.store) (λ t. answers d.store k) (λ t. k)

  unbound_from_steady : (o : Option Session) (d : Draft) → P d.store → P (unbound_from o d).store
  unbound_from_steady None d k = k
  unbound_from_steady (Some session) d k = all_tried_firm P c d.store.moment session.unanswered d.store.reports d.store k

  unbind_steady : (n : ℕ) (d : Draft) → P d.store → P (unbind n d).store
  unbind_steady n d k = unbound_from_steady (row_at session_key n d.bindings.sessions) d k

  bound_as_steady : (n : ℕ) (b : Bool) (a : Option CentreAccount) (d : Draft) → P d.store → P (bound_as n b a d).store
  bound_as_steady n b None d k = k
  bound_as_steady n b (Some a) d k = cond_both b (due_for a.name d.store) d.store P (λ t. due_for_firm P c a.name d.store k) (λ t. k)

  bind_steady : (n place : ℕ) (b : Bool) (d : Draft) → P d.store → P (bind n place b d).store
  bind_steady n place b d k = bound_as_steady n b (account_at place d.store.setup.accounts) (unbind n d) (unbind_steady n d k)

  -- ---- requests that enter nothing

  queried_steady : (m : Option MessageRow) (d : Draft) → P d.store → P (queried m d).store
  queried_steady None d k = k
  queried_steady (Some m) d k = k

  query_by_steady : (a : Option CentreAccount) (q : QuerySm) (d : Draft) → P d.store → P (query_by a q d).store
  query_by_steady None q d k = k
  query_by_steady (Some a) q d k =
      queried_steady (own_message a (source_in a.address q.source) (message_numbered (id_in q.message_id) (messages_in d.store))) d k

  cancelled_steady : (o : Option MessageRow) (d : Draft) → P d.store → ((m : MessageRow) → o ≡ Some m → message_at m.id (messages_in d.store) ≡ Some m) → P (cancelled o d).store
  cancelled_steady None d k there = k
  cancelled_steady (Some m) d k there =
      cond_both (is_pending m) _ _ (λ (e : Draft). P e.store) (λ t. c.ended Deleted m d.store k (there m refl) t refl) (λ t. k)

  cancel_by_steady : (a : Option CentreAccount) (q : CancelSm) (d : Draft) → P d.store → P (cancel_by a q d).store
  cancel_by_steady None q d k = k
  cancel_by_steady (Some a) q d k =
      let m : Option MessageRow = to_cancel a q (messages_in d.store) in
      cond_both (is_empty q.message_id) _ (cancelled m d) (λ (e : Draft). P e.store) (λ t. k)
      (λ t. cancelled_steady m d k (λ x e. to_cancel_there a q d.store x e))

  -- ---- orders

  retried_steady : (o : Option MessageRow) (d : Draft) → P d.store → P (retried o d).store
  retried_steady None d k = k
  retried_steady (Some m) d k = all_due_firm P c (parts_among m.id (waiting_in m.handset d.store)) d.store k

  ordered_steady : (order : Order) (id : ℕ) (d : Draft) → P d.store → P (ordered order id d).store
  ordered_steady Retry id d k = retried_steady (message_at id (messages_in d.store)) d k
  ordered_steady Delete id d k = cancelled_steady (message_at id (messages_in d.store)) d k (λ m e. message_own id m d.store e)

  -- ---- where a submission is accepted, at most once in an event

  module _ (Q : Store → Type 0) (enters : (u : Submission) (s : Store) → P s → IsSubmission u → IfThere Q (accept u s)) (also : (s : Store) → P s → Q s) where
    -- ---- units that open a transaction

    submit_accepted_steady : (h : List ℕ) (n : ℕ) (tag : Holder) (o : Option Store) (d : Draft) → P d.store → IfThere Q o → Q (submit_accepted h n tag o d).store
    submit_accepted_steady h n tag None d k l = also d.store k
    submit_accepted_steady h n tag (Some e) d k l = l

    submission_from_steady : (h : List ℕ) (n : ℕ) (tag : Holder) (u : Result Submission SubmitRefusal) (d : Draft) → P d.store → ((x : Submission) → u ≡ Ok x → IsSubmission x)
        → Q (submission_from h n tag u d).store
    submission_from_steady h n tag (Err r) d k g = also d.store k
    submission_from_steady h n tag (Ok u) d k g =
        cond_both (is_duplicate u d.store) (refuse h n tag Duplicate d)
        (if is_reference_taken u d.store then refuse h n tag ReferenceTaken d else submit_accepted h n tag (accept u d.store) d) (λ (e : Draft). Q e.store)
        (λ t. also d.store k)
        (λ t. cond_both (is_reference_taken u d.store) (refuse h n tag ReferenceTaken d) (submit_accepted h n tag (accept u d.store) d) (λ (e : Draft). Q e.store)
        (λ t. also d.store k) (λ t. submit_accepted_steady h n tag (accept u d.store) d k (enters u d.store k (g u refl))))

    unit_received_steady : (h : List ℕ) (tag : Holder) (unit : List ℕ) (u : Result Rp RelayFault) (d : Draft) → P d.store → UnitGives d.store.setup.accounts h d.store.moment u → Q (unit_received h tag unit u d).store
    unit_received_steady h tag unit (Ok (DataUnit r z t)) d k g = submission_from_steady h r tag (from_read d.store.setup.accounts h d.store.moment (tpdu_up_at InData t)) d k g
    unit_received_steady h tag unit (Ok (AckUnit r t)) d k g = also d.store k
    unit_received_steady h tag unit (Ok (ErrorUnit r z t)) d k g = also d.store k
    unit_received_steady h tag unit (Ok (Smma r)) d k g = also (due_now h d.store) (due_now_firm P c h d.store k)
    unit_received_steady h tag unit (Err f) d k g = also d.store k

    went_up_steady : (h : List ℕ) (tag : Holder) (u : Option Upward) (d : Draft) → P d.store → UpGives d.store.setup.accounts h d.store.moment u → Q (went_up h tag u d).store
    went_up_steady h tag None d k g = also d.store k
    went_up_steady h tag (Some (Opened unit)) d k g = unit_received_steady h tag unit (up_at unit) d k g
    went_up_steady h tag (Some (Ended transfer ending)) d k g = also (conclude h transfer ending d).store (conclude_steady h transfer ending d k)

    frame_taken_steady : (octets : List ℕ) (tag : Holder) (l : HandsetLink) (d : Draft) → P d.store → UpGives d.store.setup.accounts l.handset d.store.moment (taken octets l.near_end).out.up → Q (frame_taken octets tag l d).store
    frame_taken_steady octets tag l d k g = went_up_steady l.handset tag (taken octets l.near_end).out.up (on_links (turn_link l (taken octets l.near_end) d.links) d) k g

    -- ---- requests

    accepted_steady : (id : ℕ) (o : Option Store) (d : Draft) → P d.store → IfThere Q o → Q (accepted id o d).store
    accepted_steady id None d k l = also d.store k
    accepted_steady id (Some s) d k l = l

    submission_received_steady : (u : Result Submission CommandStatus) (d : Draft) → P d.store → ((x : Submission) → u ≡ Ok x → IsSubmission x) → Q (submission_received u d).store
    submission_received_steady (Err status) d k g = also d.store k
    submission_received_steady (Ok u) d k g =
        let o : Option Store = accept u d.store in
        cond_both (is_reference_taken u d.store) _ (accepted (next_number (rows_of d.store)) (unless_too_much u o) d) (λ (e : Draft). Q e.store)
        (λ t. also d.store k)
        (λ t. accepted_steady (next_number (rows_of d.store)) (unless_too_much u o) d k (unless_kept (IfThere Q) u o tt (enters u d.store k (g u refl))))

    submit_by_steady : (a : Option CentreAccount) (m : Message) (d : Draft) → P d.store → AccountGives a d.store.moment m → Q (submit_by a m d).store
    submit_by_steady None m d k g = also d.store k
    submit_by_steady (Some a) m d k g = submission_received_steady (from_pdu a d.store.moment m) d k g

    -- ---- every event

    pub event_leads_firm : (event : CentreEvent) (core : Core) → P (draft_of core).store → IsMoment core.moment → EventGives event core
        → ((session id : ℕ) (b : Bool) → event ≡ DeliverAnswered session id b → AnswerKeeps P id b) → Q (happened event core).store
    event_leads_firm (Submit account m) core k now g answers = submit_by_steady (account_at account core.rows.setup.accounts) m (draft_of core) k g
    event_leads_firm (Query account q) core k now g answers = also (happened (Query account q) core).store (query_by_steady (account_at account core.rows.setup.accounts) q (draft_of core) k)
    event_leads_firm (Cancel account q) core k now g answers = also (happened (Cancel account q) core).store (cancel_by_steady (account_at account core.rows.setup.accounts) q (draft_of core) k)
    event_leads_firm (Bound session account receives) core k now g answers = also (happened (Bound session account receives) core).store (bind_steady session account receives (draft_of core) k)
    event_leads_firm (Unbound session) core k now g answers = also (happened (Unbound session) core).store (unbind_steady session (draft_of core) k)
    event_leads_firm (DeliverAnswered session id b) core k now g answers = also (happened (DeliverAnswered session id b) core).store (answered_by_steady id b (answers session id b refl) (row_at session_key session core.sessions) (draft_of core) k)
    event_leads_firm (Frame handset octets tag) core k now g answers = frame_taken_steady octets (tag_of tag) (link_of handset core.links) (draft_of core) k g
    event_leads_firm (LinkUp handset) core k now g answers = also (happened (LinkUp handset) core).store (raise_steady handset (draft_of core) k)
    event_leads_firm (LinkDown handset) core k now g answers = also (happened (LinkDown handset) core).store (lower_steady handset (draft_of core) k)
    event_leads_firm (Ordered order id) core k now g answers = also (happened (Ordered order id) core).store (ordered_steady order id (draft_of core) k)
    event_leads_firm (Tick now) core k was g answers = also (happened (Tick now) core).store (ticked_steady now (draft_of core) k was g)

pub event_leads : (P : Store → Type 0) → IsStill P → (Q : Store → Type 0) → ((u : Submission) (s : Store) → P s → IsSubmission u → IfThere Q (accept u s)) → ((s : Store) → P s → Q s)
    → (event : CentreEvent) (core : Core) → P (draft_of core).store → IsMoment core.moment → EventGives event core → Q (happened event core).store
event_leads P c Q enters also event core k now g = event_leads_firm P (firm_of P c) Q enters also event core k now g (λ session id b e s h. answered_steady P c id b s h)

pub steady_event : (P : Store → Type 0) → IsSteady P → (event : CentreEvent) (core : Core) → P (draft_of core).store → IsMoment core.moment → EventGives event core → P (happened event core).store
steady_event P c = event_leads P (still_of P c) P c.accepted (λ s k. k)

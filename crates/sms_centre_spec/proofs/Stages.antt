-- What every move of a store keeps, every event keeps: a fact of stores that the moves keep is carried through all stages.
-- Stages of links and of sessions leave the store, which is by computing.
use Rattle.std.proofs.Common.{ℕ, ◌+◌, List, [], ◌∷◌, Bool, false, Option, Some, None, Result, Ok, Err}
use Rattle.std.proofs.lemmas.Bool.{cond_both}
use Rattle.std.specs.Prelude.{nat_le, ◌==◌, ◌&&◌, if◌then◌else◌}
use Rattle.std.specs.Option.{option_and_then}
use Rattle.sms_base.specs.declared.carried.Carried.{Carried}
use Rattle.sms_base.specs.declared.final_state.FinalState.{FinalState}
use Rattle.sms_base.specs.declared.final_state.FinalState.TheVariants.{Deleted, Delivered, Expired, Undeliverable}
use Rattle.sms_base.specs.declared.holder.Holder.{Holder}
use Rattle.sms_base.specs.declared.holder.Holder.TheVariants.{Part, Report, Entry, Memory}
use Rattle.sms_rows.specs.table.Table.{row_at}
use Rattle.sms_link.specs.declared.ending.Ending.{Ending}
use Rattle.sms_link.specs.declared.ending.Ending.TheVariants.{Lost}
use Rattle.sms_link.specs.declared.ending.Upward.{Upward}
use Rattle.sms_link.specs.declared.ending.Upward.TheVariants.{Opened, Ended}
use Rattle.sms_link.specs.LinkTurn.{taken}
use Rattle.sms_relay.specs.declared.fault.RelayFault.{RelayFault}
use Rattle.sms_relay.specs.declared.frame.Rp.{Rp}
use Rattle.sms_relay.specs.declared.frame.Rp.TheVariants.{DataUnit, AckUnit, ErrorUnit, Smma}
use Rattle.sms_relay.specs.RelayReading.{up_at}
use Rattle.sms_tpdu.specs.declared.carrier.Carrier.TheVariants.{InData}
use Rattle.sms_tpdu.specs.TpduReading.{up_at as tpdu_up_at}
use Rattle.smpp_pdu.specs.declared.cancel.CancelSm.{CancelSm}
use Rattle.smpp_pdu.specs.declared.message.Message.{Message}
use Rattle.smpp_pdu.specs.declared.query.QuerySm.{QuerySm}
use Rattle.smpp_pdu.specs.declared.status.CommandStatus.{CommandStatus}
use Rattle.sms_centre_rows.specs.declared.messages.message.MessageRow.{MessageRow}
use Rattle.sms_base.specs.declared.originator.Originator.{Originator}
use Rattle.sms_base.specs.declared.originator.Originator.TheVariants.{Application, Handset}
use Rattle.sms_centre_rows.specs.declared.messages.part.PartRow.{PartRow}
use Rattle.sms_centre_rows.specs.declared.messages.priority.PriorityRow.{PriorityRow}
use Rattle.sms_centre_rows.specs.messages.Messages.{all_done, ended, is_pending, message_at, part_at}
use Rattle.sms_centre_rows.specs.messages.SplitReferences.{is_among, next_split}
use Rattle.sms_centre_rows.specs.declared.reports.report.ReportRow.{ReportRow}
use Rattle.sms_centre_rows.specs.reports.Receipts.{Session, all_tried, is_put_off, receipt_ended, receipts_due, session_key}
use Rattle.sms_centre_rows.specs.reports.Reports.{is_open_status, put_report, report_of, reports_of, amend_report}
use Rattle.sms_centre_rows.specs.declared.waiting.handset.HandsetRow.{HandsetRow}
use Rattle.sms_centre_rows.specs.declared.waiting.handset_link.HandsetLink.{HandsetLink}
use Rattle.sms_centre_rows.specs.declared.waiting.queued_part.QueuedPart.{QueuedPart}
use Rattle.sms_centre_rows.specs.declared.waiting.progress.Progress.{Progress}
use Rattle.sms_centre_rows.specs.waiting.Links.{link_of, lowered, put_link, turn_link}
use Rattle.sms_centre_rows.specs.waiting.References.{handset_of}
use Rattle.sms_centre_rows.specs.waiting.Revisions.{Revised}
use Rattle.sms_centre_rows.specs.waiting.Trying.{due_at, later}
use Rattle.sms_centre_spec.specs.declared.event.CentreEvent.{CentreEvent}
use Rattle.sms_centre_spec.specs.declared.event.CentreEvent.TheVariants.{Submit, Query, Cancel, Bound, Unbound, DeliverAnswered, Frame, LinkUp, LinkDown, Ordered, Tick}
use Rattle.sms_intake.specs.declared.refusal.SubmitRefusal.{SubmitRefusal}
use Rattle.sms_intake.specs.declared.refusal.SubmitRefusal.TheVariants.{Duplicate, ReferenceTaken}
use Rattle.sms_intake.specs.declared.submission.CentreAccount.{CentreAccount}
use Rattle.sms_intake.specs.declared.submission.SinglePart.{SinglePart}
use Rattle.sms_intake.specs.declared.submission.Submission.{Submission}
use Rattle.sms_centre_spec.specs.declared.verdict.Verdict.{Verdict}
use Rattle.sms_centre_spec.specs.declared.verdict.Verdict.TheVariants.{Settled, HandsetFull, Again, Refused, Late}
use Rattle.sms_intake.specs.HandsetIntake.{from_read}
use Rattle.sms_centre_spec.specs.Numbers.{id_in}
use Rattle.sms_intake.specs.PartBodies.{bodies_under, is_long}
use Rattle.sms_intake.specs.SmppIntake.{from_pdu, source_in, is_empty}
use Rattle.sms_centre_spec.specs.Shares.{takes_too_much, unless_too_much}
use Rattle.sms_centre_spec.specs.Submitting.{accept, accept_as, accept_split, accept_under, enter, give_part, give_parts, is_reference_taken, part_given, reference_for}
use Rattle.sms_centre_spec.specs.Ends.{end, is_wished, report, report_to, status_given}
use Rattle.sms_centre_spec.specs.Transfers.{complete, conclude, holder_ended, part_ended, part_ended_at, part_ended_of, report_closed, report_ended, report_ended_at, verdict_on}
use Rattle.sms_centre_spec.specs.Receiving.{all_due, due_now, is_duplicate, queued_due, part_due, refuse, report_due, submit_accepted, submit_received as submission_from, unit_received}
use Rattle.sms_centre_spec.specs.Requests.{account_at, accepted, cancel_by, cancelled, message_numbered, own_message, queried, query_by, submission_received, submit_by, to_cancel}
use Rattle.sms_centre_spec.specs.declared.order.Order.{Order}
use Rattle.sms_centre_spec.specs.declared.order.Order.TheVariants.{Retry, Delete}
use Rattle.sms_centre_spec.specs.Orders.{ordered, parts_among, retried}
use Rattle.sms_centre_spec.specs.Sessions.{answered_by, bind, bound_as, due_for, unbind, unbound_from}
use Rattle.sms_centre_spec.specs.CentreEvent.{aged, at_moment, drop_all, expire_all, expired, fired, frame_taken, happened, lost, lower, raise, raised, report_limit, tag_of, went_up}
use Rattle.sms_centre_spec.specs.Draft.{Core, Draft, Store, bars_in, draft_of, handsets_in, messages_in, on_links, parts_in, reports_in, rows_of, waiting_in, with_given, with_message, with_part, with_part_at, with_priority, with_report_at, with_reports}
use Rattle.sms_centre_spec.specs.MessageNumbers.{next_number}
use Rattle.sms_centre_spec.proofs.Ticking.{fired_says, raised_says}

-- the moves keep the fact
pub record Closed (P : Store → Type 0) : Type 0 where
  pub message : (m : MessageRow) (s : Store) → P s → P (with_message m s)
  pub part : (p : PartRow) (s : Store) → P s → P (with_part p s)
  pub progress : (p : PartRow) (q : Progress) (s : Store) → P s → P (with_part_at p q s)
  pub priority : (p : PriorityRow) (s : Store) → P s → P (with_priority p s)
  pub given : (h : HandsetRow) (reference : ℕ) (s : Store) → P s → P (with_given h reference s)
  pub report : (r : ReportRow) (s : Store) → P s → P (with_reports (put_report r s.reports) s)
  pub report_progress : (r : ReportRow) (q : Progress) (s : Store) → P s → P (with_report_at r q s)

-- the fact, as the event begins: a tick moves the moment first
abbrev pub AtStart : (Store → Type 0) → CentreEvent → Core → Type 0
AtStart P (Tick now) c = P (at_moment now (draft_of c)).store
AtStart P _ c = P (draft_of c).store

-- where it says nothing of the moment
pub at_start : (P : Store → Type 0) → ((n : ℕ) (s : Store) → P s → P (record s { moment = n })) → (event : CentreEvent) (c : Core) → P (draft_of c).store → AtStart P event c
at_start P moves (Submit account m) c k = k
at_start P moves (Query account q) c k = k
at_start P moves (Cancel account q) c k = k
at_start P moves (Bound session account receives) c k = k
at_start P moves (Unbound session) c k = k
at_start P moves (DeliverAnswered session id b) c k = k
at_start P moves (Frame handset octets tag) c k = k
at_start P moves (LinkUp handset) c k = k
at_start P moves (LinkDown handset) c k = k
at_start P moves (Ordered order id) c k = k
at_start P moves (Tick now) c k = moves _ (draft_of c).store k

-- the fact, if there is a store
abbrev pub IfThere : (Store → Type 0) → Option Store → Type 0
IfThere P None = Unit {0}
IfThere P (Some s) = P s

-- what holds of a submission that was accepted, and of one that was not, holds where its account may hold too much
pub unless_kept : (Q : Option Store → Type 0) (u : Submission) (o : Option Store) → Q None → Q o → Q (unless_too_much u o)
unless_kept Q u None none k = k
unless_kept Q u (Some s) none k =
    cond_both (takes_too_much u.originator (messages_in s) (waiting_in u.handset s)) None (Some s) Q (λ t. none) (λ t. k)

module _ (P : Store → Type 0) (c : Closed P) where
  -- ---- how a message ends

  status_given_keeps : (f : FinalState) (m : MessageRow) (h : HandsetRow) (r : Option ℕ) (s : Store) → P s → P (status_given f m h r s)
  status_given_keeps f m h None s k = c.report _ s k
  status_given_keeps f m h (Some r) s k = c.report _ (with_given h r s) (c.given h r s k)

  report_to_keeps : (o : Originator) (f : FinalState) (m : MessageRow) (s : Store) → P s → P (report_to o f m s)
  report_to_keeps (Application account) f m s k = c.report _ s k
  report_to_keeps (Handset reference) f m s k =
      let h : HandsetRow = handset_of m.source.digits (handsets_in s) in status_given_keeps f m h (reference_for h s) s k

  report_keeps : (f : FinalState) (m : MessageRow) (s : Store) → P s → P (report f m s)
  report_keeps f m s k = cond_both (is_wished m.wish f) (report_to m.originator f m s) s P (λ t. report_to_keeps m.originator f m s k) (λ t. k)

  pub end_keeps : (f : FinalState) (m : MessageRow) (s : Store) → P s → P (end f m s)
  end_keeps f m s k = report_keeps f m (with_message (ended f s.moment m) s) (c.message _ s k)

  -- ---- how a transfer ends

  complete_keeps : (m : MessageRow) (s : Store) → P s → P (complete m s)
  complete_keeps m s k = cond_both (all_done m.id (parts_in s)) (end Delivered m s) s P (λ t. end_keeps Delivered m s k) (λ t. k)

  part_ended_keeps : (v : Verdict) (p : PartRow) (m : MessageRow) (s : Store) → P s → P (part_ended v p m s)
  part_ended_keeps Settled p m s k = complete_keeps m _ (c.progress p _ s k)
  part_ended_keeps HandsetFull p m s k = k
  part_ended_keeps Again p m s k = c.progress p _ s k
  part_ended_keeps Refused p m s k = end_keeps Undeliverable m s k
  part_ended_keeps Late p m s k = k

  part_ended_of_keeps : (v : Verdict) (p : PartRow) (m : Option MessageRow) (s : Store) → P s → P (part_ended_of v p m s)
  part_ended_of_keeps v p None s k = k
  part_ended_of_keeps v p (Some m) s k = part_ended_keeps v p m s k

  part_ended_at_keeps : (v : Verdict) (p : Option PartRow) (s : Store) → P s → P (part_ended_at v p s)
  part_ended_at_keeps v None s k = k
  part_ended_at_keeps v (Some p) s k = part_ended_of_keeps v p (message_at p.id (messages_in s)) s k

  report_ended_keeps : (v : Verdict) (r : ReportRow) (s : Store) → P s → P (report_ended v r s)
  report_ended_keeps Settled r s k = c.report_progress r _ s k
  report_ended_keeps HandsetFull r s k = k
  report_ended_keeps Again r s k = c.report_progress r _ s k
  report_ended_keeps Refused r s k = c.report_progress r _ s k
  report_ended_keeps Late r s k = k

  report_ended_at_keeps : (v : Verdict) (r : Option ReportRow) (s : Store) → P s → P (report_ended_at v r s)
  report_ended_at_keeps v None s k = k
  report_ended_at_keeps v (Some r) s k = report_ended_keeps v r s k

  pub holder_ended_keeps : (v : Verdict) (h : Holder) (s : Store) → P s → P (holder_ended v h s)
  holder_ended_keeps v (Part id number) s k = part_ended_at_keeps v (part_at id number (parts_in s)) s k
  holder_ended_keeps v (Report id) s k = report_ended_at_keeps v (report_of id (reports_in s)) s k
  holder_ended_keeps v (Entry n) s k = k
  holder_ended_keeps v (Memory n) s k = k

  pub conclude_keeps : (handset : List ℕ) (t : Carried) (e : Ending) (d : Draft) → P d.store → P (conclude handset t e d).store
  conclude_keeps handset t e d k = holder_ended_keeps (verdict_on t.tag e d.store) t.tag d.store k

  -- ---- due now

  part_due_keeps : (p : Option PartRow) (s : Store) → P s → P (part_due p s)
  part_due_keeps None s k = k
  part_due_keeps (Some p) s k = c.progress p _ s k

  report_due_keeps : (r : Option ReportRow) (s : Store) → P s → P (report_due r s)
  report_due_keeps None s k = k
  report_due_keeps (Some r) s k = c.report_progress r _ s k

  queued_due_keeps : (l : QueuedPart) (s : Store) → P s → P (queued_due l s)
  queued_due_keeps l s k =
      cond_both (l.number == 0) (report_due (report_of l.id (reports_in s)) s) (part_due (part_at l.id l.number (parts_in s)) s) P
      (λ t. report_due_keeps (report_of l.id (reports_in s)) s k) (λ t. part_due_keeps (part_at l.id l.number (parts_in s)) s k)

  all_due_keeps : (ls : List QueuedPart) (s : Store) → P s → P (all_due ls s)
  all_due_keeps [] s k = k
  all_due_keeps (l ∷ ls) s k = all_due_keeps ls (queued_due l s) (queued_due_keeps l s k)

  pub due_now_keeps : (handset : List ℕ) (s : Store) → P s → P (due_now handset s)
  due_now_keeps handset s k = all_due_keeps (waiting_in handset s) s k

  -- ---- submissions

  part_given_keeps : (id : ℕ) (u : Submission) (n : ℕ) (b : SinglePart) (h : HandsetRow) (r : Option ℕ) (s : Store) → P s → IfThere P (part_given id u n b h r s)
  part_given_keeps id u n b h None s k = tt
  part_given_keeps id u n b h (Some r) s k = c.part _ (with_given h r s) (c.given h r s k)

  and_then_keeps : (f : Store → Option Store) → ((e : Store) → P e → IfThere P (f e)) → (o : Option Store) → IfThere P o → IfThere P (option_and_then f o)
  and_then_keeps f g None k = tt
  and_then_keeps f g (Some e) k = g e k

  give_parts_keeps : (id : ℕ) (u : Submission) (n : ℕ) (bs : List SinglePart) (s : Store) → P s → IfThere P (give_parts id u n bs s)
  give_parts_keeps id u n [] s k = k
  give_parts_keeps id u n (b ∷ bs) s k =
      let h : HandsetRow = handset_of u.handset (handsets_in s) in
      and_then_keeps (λ (e : Store). give_parts id u (n + 1) bs e) (λ e l. give_parts_keeps id u (n + 1) bs e l) (give_part id u n b h s)
      (part_given_keeps id u n b h (reference_for h s) s k)

  accept_under_keeps : (id : ℕ) (o : Option ℕ) (bs : List SinglePart) (u : Submission) (s : Store) → P s → IfThere P (accept_under id o bs u s)
  accept_under_keeps id o bs u s k = give_parts_keeps id u 1 bs (enter id o u s) (c.priority _ _ (c.message _ s k))

  accept_split_keeps : (id : ℕ) (o : Option ℕ) (u : Submission) (s : Store) → P s → IfThere P (accept_split id o u s)
  accept_split_keeps id None u s k = tt
  accept_split_keeps id (Some r) u s k = accept_under_keeps id (Some r) (bodies_under r u.text) u s k

  accept_as_keeps : (id : ℕ) (u : Submission) (s : Store) → P s → IfThere P (accept_as id u s)
  accept_as_keeps id u s k =
      let split : Option ℕ = next_split u.source u.handset (bars_in s) (messages_in s) (parts_in s) in
      cond_both (is_long u.text) (accept_split id split u s) (accept_under id None (bodies_under 0 u.text) u s) (λ o. IfThere P o)
      (λ t. accept_split_keeps id split u s k) (λ t. accept_under_keeps id None (bodies_under 0 u.text) u s k)

  pub accept_keeps : (u : Submission) (s : Store) → P s → IfThere P (accept u s)
  accept_keeps u s k =
      cond_both (nat_le (next_number (rows_of s)) 9999999999) (accept_as (next_number (rows_of s)) u s) None (λ o. IfThere P o)
      (λ t. accept_as_keeps (next_number (rows_of s)) u s k) (λ t. tt)

  -- ---- units that open a transaction

  submit_accepted_keeps : (h : List ℕ) (n : ℕ) (tag : Holder) (o : Option Store) (d : Draft) → P d.store → IfThere P o → P (submit_accepted h n tag o d).store
  submit_accepted_keeps h n tag None d k l = k
  submit_accepted_keeps h n tag (Some e) d k l = l

  submission_from_keeps : (h : List ℕ) (n : ℕ) (tag : Holder) (u : Result Submission SubmitRefusal) (d : Draft) → P d.store → P (submission_from h n tag u d).store
  submission_from_keeps h n tag (Err r) d k = k
  submission_from_keeps h n tag (Ok u) d k =
      cond_both (is_duplicate u d.store) (refuse h n tag Duplicate d)
      (if is_reference_taken u d.store then refuse h n tag ReferenceTaken d else submit_accepted h n tag (accept u d.store) d) (λ (e : Draft). P e.store)
      (λ t. k)
      (λ t. cond_both (is_reference_taken u d.store) (refuse h n tag ReferenceTaken d) (submit_accepted h n tag (accept u d.store) d) (λ (e : Draft). P e.store)
      (λ t. k) (λ t. submit_accepted_keeps h n tag (accept u d.store) d k (accept_keeps u d.store k)))

  pub unit_received_keeps : (h : List ℕ) (tag : Holder) (unit : List ℕ) (u : Result Rp RelayFault) (d : Draft) → P d.store → P (unit_received h tag unit u d).store
  unit_received_keeps h tag unit (Ok (DataUnit r z t)) d k = submission_from_keeps h r tag (from_read d.store.setup.accounts h d.store.moment (tpdu_up_at InData t)) d k
  unit_received_keeps h tag unit (Ok (AckUnit r t)) d k = k
  unit_received_keeps h tag unit (Ok (ErrorUnit r z t)) d k = k
  unit_received_keeps h tag unit (Ok (Smma r)) d k = due_now_keeps h d.store k
  unit_received_keeps h tag unit (Err f) d k = k

  -- ---- links

  went_up_keeps : (h : List ℕ) (tag : Holder) (u : Option Upward) (d : Draft) → P d.store → P (went_up h tag u d).store
  went_up_keeps h tag None d k = k
  went_up_keeps h tag (Some (Opened unit)) d k = unit_received_keeps h tag unit (up_at unit) d k
  went_up_keeps h tag (Some (Ended transfer ending)) d k = conclude_keeps h transfer ending d k

  pub frame_taken_keeps : (octets : List ℕ) (tag : Holder) (l : HandsetLink) (d : Draft) → P d.store → P (frame_taken octets tag l d).store
  frame_taken_keeps octets tag l d k = went_up_keeps l.handset tag (taken octets l.near_end).out.up (on_links (turn_link l (taken octets l.near_end) d.links) d) k

  pub raise_keeps : (h : List ℕ) (d : Draft) → P d.store → P (raise h d).store
  raise_keeps h d k = due_now_keeps (link_of h d.links.all).handset d.store k

  lost_keeps : (h : List ℕ) (o : Option Carried) (d : Draft) → P d.store → P (lost h o d).store
  lost_keeps h None d k = k
  lost_keeps h (Some t) d k = conclude_keeps h t Lost d k

  pub lower_keeps : (h : List ℕ) (d : Draft) → P d.store → P (lower h d).store
  lower_keeps h d k =
      let l : HandsetLink = link_of h d.links.all in lost_keeps l.handset l.near_end.under_way (on_links (put_link (lowered l) d.links) d) k

  -- ---- a tick

  expire_all_keeps : (ms : List MessageRow) (s : Store) → P s → P (expire_all ms s)
  expire_all_keeps [] s k = k
  expire_all_keeps (m ∷ ms) s k =
      expire_all_keeps ms (if is_pending m && nat_le m.limit s.moment then end Expired m s else s)
      (cond_both (is_pending m && nat_le m.limit s.moment) (end Expired m s) s P (λ t. end_keeps Expired m s k) (λ t. k))

  drop_all_keeps : (rs : List ReportRow) (s : Store) → P s → P (drop_all rs s)
  drop_all_keeps [] s k = k
  drop_all_keeps (r ∷ rs) s k =
      drop_all_keeps rs (if is_open_status r && nat_le (later r.made report_limit) s.moment then report_closed r s else s)
      (cond_both (is_open_status r && nat_le (later r.made report_limit) s.moment) (report_closed r s) s P (λ t. c.report_progress r _ s k) (λ t. k))

  aged_keeps : (d : Draft) → P d.store → P (aged d).store
  aged_keeps d k = drop_all_keeps (reports_in (expired d.store)) (expired d.store) (expire_all_keeps (messages_in d.store) d.store k)

  ticked_keeps : (d : Draft) → P d.store → P (raised (fired (aged d))).store
  ticked_keeps d k =
      raised_says (λ (e : Draft). P e.store) raise_keeps (fired (aged d))
      (fired_says (λ (e : Draft). P e.store) conclude_keeps (λ links e kept. kept) (aged d) (aged_keeps d k))

  -- ---- sessions

  receipt_ended_keeps : (b : Bool) (n : ℕ) (r : Option ReportRow) (t : Revised ReportRow) (s : Store) → P (with_reports t s) → P (with_reports (receipt_ended b n r t) s)
  receipt_ended_keeps b n None t s k = k
  receipt_ended_keeps b n (Some r) t s k = c.report_progress r _ (with_reports t s) k

  all_tried_keeps : (n : ℕ) (ids : List ℕ) (t : Revised ReportRow) (s : Store) → P (with_reports t s) → P (with_reports (all_tried n ids t) s)
  all_tried_keeps n [] t s k = k
  all_tried_keeps n (id ∷ ids) t s k =
      all_tried_keeps n ids (receipt_ended false n (report_of id (reports_of t)) t) s (receipt_ended_keeps false n (report_of id (reports_of t)) t s k)

  receipts_due_keeps : (n : ℕ) (a : List ℕ) (ms : List MessageRow) (rs : List ReportRow) (t : Revised ReportRow) (s : Store) → P (with_reports t s) → P (with_reports (receipts_due n a ms rs t) s)
  receipts_due_keeps n a ms [] t s k = k
  receipts_due_keeps n a ms (r ∷ rs) t s k =
      let is_one : Bool = is_put_off n a r (message_at r.id ms) in
      receipts_due_keeps n a ms rs (if is_one then amend_report r (due_at n r.progress) t else t) s
      (cond_both is_one (amend_report r (due_at n r.progress) t) t (λ (u : Revised ReportRow). P (with_reports u s))
      (λ e. c.report_progress r _ (with_reports t s) k) (λ e. k))

  answered_by_keeps : (id : ℕ) (b : Bool) (o : Option Session) (d : Draft) → P d.store → P (answered_by id b o d).store
  answered_by_keeps id b None d k = k
  answered_by_keeps id b (Some session) d k =
      cond_both (is_among id session.unanswered) _ d (λ (e : Draft). P e.store)
      (λ t. receipt_ended_keeps b d.store.moment (report_of id (reports_in d.store)) d.store.reports d.store k) (λ t. k)

  unbound_from_keeps : (o : Option Session) (d : Draft) → P d.store → P (unbound_from o d).store
  unbound_from_keeps None d k = k
  unbound_from_keeps (Some session) d k = all_tried_keeps d.store.moment session.unanswered d.store.reports d.store k

  unbind_keeps : (n : ℕ) (d : Draft) → P d.store → P (unbind n d).store
  unbind_keeps n d k = unbound_from_keeps (row_at session_key n d.bindings.sessions) d k

  due_for_keeps : (a : List ℕ) (s : Store) → P s → P (due_for a s)
  due_for_keeps a s k = receipts_due_keeps s.moment a (messages_in s) (reports_in s) s.reports s k

  bound_as_keeps : (n : ℕ) (b : Bool) (a : Option CentreAccount) (d : Draft) → P d.store → P (bound_as n b a d).store
  bound_as_keeps n b None d k = k
  bound_as_keeps n b (Some a) d k = cond_both b (due_for a.name d.store) d.store P (λ t. due_for_keeps a.name d.store k) (λ t. k)

  bind_keeps : (n place : ℕ) (b : Bool) (d : Draft) → P d.store → P (bind n place b d).store
  bind_keeps n place b d k = bound_as_keeps n b (account_at place d.store.setup.accounts) (unbind n d) (unbind_keeps n d k)

  -- ---- requests

  accepted_keeps : (id : ℕ) (o : Option Store) (d : Draft) → P d.store → IfThere P o → P (accepted id o d).store
  accepted_keeps id None d k l = k
  accepted_keeps id (Some s) d k l = l

  submission_received_keeps : (u : Result Submission CommandStatus) (d : Draft) → P d.store → P (submission_received u d).store
  submission_received_keeps (Err status) d k = k
  submission_received_keeps (Ok u) d k =
      let o : Option Store = accept u d.store in
      cond_both (is_reference_taken u d.store) _ (accepted (next_number (rows_of d.store)) (unless_too_much u o) d) (λ (e : Draft). P e.store)
      (λ t. k)
      (λ t. accepted_keeps (next_number (rows_of d.store)) (unless_too_much u o) d k (unless_kept (IfThere P) u o tt (accept_keeps u d.store k)))

  submit_by_keeps : (a : Option CentreAccount) (m : Message) (d : Draft) → P d.store → P (submit_by a m d).store
  submit_by_keeps None m d k = k
  submit_by_keeps (Some a) m d k = submission_received_keeps (from_pdu a d.store.moment m) d k

  queried_keeps : (m : Option MessageRow) (d : Draft) → P d.store → P (queried m d).store
  queried_keeps None d k = k
  queried_keeps (Some m) d k = k

  query_by_keeps : (a : Option CentreAccount) (q : QuerySm) (d : Draft) → P d.store → P (query_by a q d).store
  query_by_keeps None q d k = k
  query_by_keeps (Some a) q d k =
      queried_keeps (own_message a (source_in a.address q.source) (message_numbered (id_in q.message_id) (messages_in d.store))) d k

  cancelled_keeps : (m : Option MessageRow) (d : Draft) → P d.store → P (cancelled m d).store
  cancelled_keeps None d k = k
  cancelled_keeps (Some m) d k =
      cond_both (is_pending m) _ _ (λ (e : Draft). P e.store) (λ t. end_keeps Deleted m d.store k) (λ t. k)

  cancel_by_keeps : (a : Option CentreAccount) (q : CancelSm) (d : Draft) → P d.store → P (cancel_by a q d).store
  cancel_by_keeps None q d k = k
  cancel_by_keeps (Some a) q d k =
      let m : Option MessageRow = to_cancel a q (messages_in d.store) in
      cond_both (is_empty q.message_id) _ (cancelled m d) (λ (e : Draft). P e.store) (λ t. k) (λ t. cancelled_keeps m d k)

  retried_keeps : (m : Option MessageRow) (d : Draft) → P d.store → P (retried m d).store
  retried_keeps None d k = k
  retried_keeps (Some m) d k = all_due_keeps (parts_among m.id (waiting_in m.handset d.store)) d.store k

  ordered_keeps : (order : Order) (id : ℕ) (d : Draft) → P d.store → P (ordered order id d).store
  ordered_keeps Retry id d k = retried_keeps (message_at id (messages_in d.store)) d k
  ordered_keeps Delete id d k = cancelled_keeps (message_at id (messages_in d.store)) d k

  -- ---- every event

  pub happened_keeps : (event : CentreEvent) (core : Core) → AtStart P event core → P (happened event core).store
  happened_keeps (Submit account m) core k = submit_by_keeps (account_at account core.rows.setup.accounts) m (draft_of core) k
  happened_keeps (Query account q) core k = query_by_keeps (account_at account core.rows.setup.accounts) q (draft_of core) k
  happened_keeps (Cancel account q) core k = cancel_by_keeps (account_at account core.rows.setup.accounts) q (draft_of core) k
  happened_keeps (Bound session account receives) core k = bind_keeps session account receives (draft_of core) k
  happened_keeps (Unbound session) core k = unbind_keeps session (draft_of core) k
  happened_keeps (DeliverAnswered session id b) core k = answered_by_keeps id b (row_at session_key session core.sessions) (draft_of core) k
  happened_keeps (Frame handset octets tag) core k = frame_taken_keeps octets (tag_of tag) (link_of handset core.links) (draft_of core) k
  happened_keeps (LinkUp handset) core k = raise_keeps handset (draft_of core) k
  happened_keeps (LinkDown handset) core k = lower_keeps handset (draft_of core) k
  happened_keeps (Ordered order id) core k = ordered_keeps order id (draft_of core) k
  happened_keeps (Tick now) core k = ticked_keeps (at_moment now (draft_of core)) k

-- What the stages of events keep of a store, where each stage may assume what it is reached with: a fact that is firm is kept by
-- every event that accepts no submission and answers no receipt. Here are the stages of stores alone.
use Rattle.std.proofs.Common.{◌≡◌, ◌⊎◌, ℕ, ◌≤◌, List, [], ◌∷◌, true, false, Option, Some, None, refl, sym, ◌∙◌, subst, inl, inr, ⊎_elim}
use Rattle.std.proofs.lemmas.Bool.{and_parts, cond_both, not-true}
use Rattle.std.specs.Prelude.{not, ◌==◌, ◌&&◌}
use Rattle.sms_base.specs.declared.address.Address.{Address}
use Rattle.sms_base.specs.declared.final_state.FinalState.{FinalState}
use Rattle.sms_base.specs.declared.final_state.FinalState.TheVariants.{Undeliverable}
use Rattle.sms_base.specs.declared.holder.Holder.{Holder}
use Rattle.sms_base.specs.declared.holder.Holder.TheVariants.{Part, Report, Entry, Memory}
use Rattle.sms_base.specs.TimeStamp.{IsMoment}
use Rattle.sms_rows.specs.table.Keys.{pair_key}
use Rattle.sms_rows.specs.table.Table.{row_at}
use Rattle.sms_rows.proofs.table.Tables.{found_key}
use Rattle.sms_link.specs.declared.ending.Ending.{Ending}
use Rattle.smpp_pdu.specs.declared.address.SmeAddress.{SmeAddress}
use Rattle.smpp_pdu.specs.declared.cancel.CancelSm.{CancelSm}
use Rattle.sms_centre_rows.specs.declared.messages.message.MessageRow.{MessageRow}
use Rattle.sms_centre_rows.specs.declared.messages.part.PartRow.{PartRow}
use Rattle.sms_centre_rows.specs.messages.Messages.{is_pending, message_at, message_key, part_at, part_key}
use Rattle.sms_centre_rows.specs.messages.OpenParts.{is_open_part}
use Rattle.sms_centre_rows.specs.messages.SplitReferences.{is_delivered}
use Rattle.sms_centre_rows.specs.declared.reports.report.ReportRow.{ReportRow}
use Rattle.sms_centre_rows.specs.reports.Receipts.{is_account}
use Rattle.sms_centre_rows.specs.reports.Reports.{is_open_status, is_status, report_of}
use Rattle.sms_centre_rows.proofs.reports.AllWaiting.{report_found}
use Rattle.sms_centre_rows.specs.declared.waiting.queued_part.QueuedPart.{QueuedPart}
use Rattle.sms_centre_rows.specs.declared.waiting.progress.Progress.{Progress}
use Rattle.sms_centre_rows.specs.waiting.Trying.{due_at, finished, tried}
use Rattle.sms_intake.specs.declared.submission.CentreAccount.{CentreAccount}
use Rattle.sms_intake.specs.declared.submission.Submission.{Submission}
use Rattle.sms_intake.specs.SmppIntake.{source_in}
use Rattle.sms_centre_spec.specs.declared.verdict.Verdict.{Verdict}
use Rattle.sms_centre_spec.specs.declared.verdict.Verdict.TheVariants.{Settled, HandsetFull, Again, Refused, Late}
use Rattle.sms_centre_spec.specs.Draft.{Store, messages_in, parts_in, reports_in, waiting_in, with_part_at, with_report_at}
use Rattle.sms_centre_spec.specs.Ends.{end}
use Rattle.sms_centre_spec.specs.Numbers.{id_in}
use Rattle.sms_centre_spec.specs.Receiving.{all_due, due_now, queued_due, part_due, report_due}
use Rattle.sms_centre_spec.specs.Requests.{is_from, is_to, message_numbered, only_to, own_message, to_cancel}
use Rattle.sms_centre_spec.specs.Consistent.{IsSubmission, IsConsistent}
use Rattle.sms_centre_spec.specs.Submitting.{accept}
use Rattle.sms_centre_spec.specs.Transfers.{complete, holder_ended, is_open, is_open_part_at, is_open_status_at, part_ended, part_ended_at, part_ended_of, report_ended, report_ended_at, verdict_of, verdict_on}
use Rattle.sms_centre_spec.proofs.Stages.{IfThere}

-- A fact of stores that each stage keeps, with what the stage is reached with, where no submission is accepted and no receipt is
-- answered: a report stays as closed as it is, or is a status report that is open.
pub record IsFirm (P : Store → Type 0) : Type 0 where
  pub consistent : (s : Store) → P s → IsConsistent s
  -- a pending message ends without all its parts
  pub ended : (f : FinalState) (m : MessageRow) (s : Store) → P s → message_at m.id (messages_in s) ≡ Some m → is_pending m ≡ true → is_delivered (Some f) ≡ false → P (end f m s)
  -- a part that waits was acknowledged
  pub settled : (p : PartRow) (m : MessageRow) (s : Store) → P s → row_at part_key (part_key p) (parts_in s) ≡ Some p → message_at p.id (messages_in s) ≡ Some m → is_pending m ≡ true
      → p.progress.is_done ≡ false → P (complete m (with_part_at p (finished p.progress) s))
  -- a part is put off, or due now
  pub part_far : (p : PartRow) (q : Progress) (s : Store) → P s → row_at part_key (part_key p) (parts_in s) ≡ Some p → q.is_done ≡ p.progress.is_done → P (with_part_at p q s)
  pub report_far : (r : ReportRow) (q : Progress) (s : Store) → P s → report_of r.id (reports_in s) ≡ Some r → (q.is_done ≡ r.progress.is_done) ⊎ (is_open_status r ≡ true) → P (with_report_at r q s)
  pub later : (n : ℕ) (s : Store) → P s → s.moment ≤ n → IsMoment n → P (record s { moment = n })

-- and where a receipt may be answered
pub record IsStill (P : Store → Type 0) : Type 0 where
  pub consistent : (s : Store) → P s → IsConsistent s
  -- a pending message ends without all its parts
  pub ended : (f : FinalState) (m : MessageRow) (s : Store) → P s → message_at m.id (messages_in s) ≡ Some m → is_pending m ≡ true → is_delivered (Some f) ≡ false → P (end f m s)
  -- a part that waits was acknowledged
  pub settled : (p : PartRow) (m : MessageRow) (s : Store) → P s → row_at part_key (part_key p) (parts_in s) ≡ Some p → message_at p.id (messages_in s) ≡ Some m → is_pending m ≡ true
      → p.progress.is_done ≡ false → P (complete m (with_part_at p (finished p.progress) s))
  -- a part is put off, or due now
  pub part_far : (p : PartRow) (q : Progress) (s : Store) → P s → row_at part_key (part_key p) (parts_in s) ≡ Some p → q.is_done ≡ p.progress.is_done → P (with_part_at p q s)
  -- no report that was closed is waits again
  pub report_far : (r : ReportRow) (q : Progress) (s : Store) → P s → report_of r.id (reports_in s) ≡ Some r → (q.is_done ≡ false → r.progress.is_done ≡ false) → P (with_report_at r q s)
  pub later : (n : ℕ) (s : Store) → P s → s.moment ≤ n → IsMoment n → P (record s { moment = n })

-- and where a submission may be accepted
pub record IsSteady (P : Store → Type 0) : Type 0 where
  pub consistent : (s : Store) → P s → IsConsistent s
  pub accepted : (u : Submission) (s : Store) → P s → IsSubmission u → IfThere P (accept u s)
  pub ended : (f : FinalState) (m : MessageRow) (s : Store) → P s → message_at m.id (messages_in s) ≡ Some m → is_pending m ≡ true → is_delivered (Some f) ≡ false → P (end f m s)
  pub settled : (p : PartRow) (m : MessageRow) (s : Store) → P s → row_at part_key (part_key p) (parts_in s) ≡ Some p → message_at p.id (messages_in s) ≡ Some m → is_pending m ≡ true
      → p.progress.is_done ≡ false → P (complete m (with_part_at p (finished p.progress) s))
  pub part_far : (p : PartRow) (q : Progress) (s : Store) → P s → row_at part_key (part_key p) (parts_in s) ≡ Some p → q.is_done ≡ p.progress.is_done → P (with_part_at p q s)
  pub report_far : (r : ReportRow) (q : Progress) (s : Store) → P s → report_of r.id (reports_in s) ≡ Some r → (q.is_done ≡ false → r.progress.is_done ≡ false) → P (with_report_at r q s)
  pub later : (n : ℕ) (s : Store) → P s → s.moment ≤ n → IsMoment n → P (record s { moment = n })

-- a report that is as closed as it was, or a status report that was open, does not wait again
pub stays_closed : (r : ReportRow) (q : Progress) → (q.is_done ≡ r.progress.is_done) ⊎ (is_open_status r ≡ true) → q.is_done ≡ false → r.progress.is_done ≡ false
stays_closed r q how e = ⊎_elim
    (λ (f : q.is_done ≡ r.progress.is_done). sym f ∙ e)
    (λ (f : is_open_status r ≡ true). not-true r.progress.is_done (and_parts (is_status r.kind) (not r.progress.is_done) f).1)
    how

pub firm_of : (P : Store → Type 0) → IsStill P → IsFirm P
firm_of P c = record {
  consistent = c.consistent;
  ended = c.ended;
  settled = c.settled;
  part_far = c.part_far;
  report_far = λ r q s k there how. c.report_far r q s k there (stays_closed r q how);
  later = c.later;
}

pub still_of : (P : Store → Type 0) → IsSteady P → IsStill P
still_of P c = record { consistent = c.consistent; ended = c.ended; settled = c.settled; part_far = c.part_far; report_far = c.report_far; later = c.later }

-- ---- what is found has the key that was asked for

pub message_own : (id : ℕ) (m : MessageRow) (s : Store) → message_at id (messages_in s) ≡ Some m → message_at m.id (messages_in s) ≡ Some m
message_own id m s e = subst (λ (k : ℕ). message_at k (messages_in s) ≡ Some m) (sym (found_key message_key id m (messages_in s) e)) e

pub part_own : (key : ℕ) (p : PartRow) (s : Store) → row_at part_key key (parts_in s) ≡ Some p → row_at part_key (part_key p) (parts_in s) ≡ Some p
part_own key p s e = subst (λ (k : ℕ). row_at part_key k (parts_in s) ≡ Some p) (sym (found_key part_key key p (parts_in s) e)) e

pub report_own : (id : ℕ) (r : ReportRow) (s : Store) → report_of id (reports_in s) ≡ Some r → report_of r.id (reports_in s) ≡ Some r
report_own id r s e = subst (λ (k : ℕ). report_of k (reports_in s) ≡ Some r) (sym (report_found id r (reports_in s) e).1) e

-- ---- the message that is cancelled is stored under its number

numbered_there : (o : Option ℕ) (m : MessageRow) (s : Store) → message_numbered o (messages_in s) ≡ Some m → message_at m.id (messages_in s) ≡ Some m
numbered_there None m s e = absurd cc
numbered_there (Some id) m s e = message_own id m s e

own_there : (a : CentreAccount) (source : Option Address) (o : Option MessageRow) (m : MessageRow) → own_message a source o ≡ Some m → o ≡ Some m
own_there a source None m e = absurd cc
own_there a source (Some x) m e =
    cond_both (is_account a.name x.originator && is_from source x) (Some x) None (λ (o : Option MessageRow). o ≡ Some m → Some x ≡ Some m) (λ t f. f) (λ t f. absurd cc) e

pub only_there : (destination : SmeAddress) (o : Option MessageRow) (m : MessageRow) → only_to destination o ≡ Some m → o ≡ Some m
only_there destination None m e = absurd cc
only_there destination (Some x) m e =
    cond_both (is_to destination x) (Some x) None (λ (o : Option MessageRow). o ≡ Some m → Some x ≡ Some m) (λ t f. f) (λ t f. absurd cc) e

pub to_cancel_there : (a : CentreAccount) (q : CancelSm) (s : Store) (m : MessageRow) → to_cancel a q (messages_in s) ≡ Some m → message_at m.id (messages_in s) ≡ Some m
to_cancel_there a q s m e =
    let o : Option MessageRow = message_numbered (id_in q.message_id) (messages_in s) in
    let own : Option MessageRow = own_message a (source_in a.address q.source) o in
    numbered_there (id_in q.message_id) m s (own_there a (source_in a.address q.source) o m (only_there q.destination own m e))

module _ (P : Store → Type 0) (c : IsFirm P) where
  -- ---- how a transfer ends, of what still waits

  part_ended_firm : (v : Verdict) (p : PartRow) (m : MessageRow) (s : Store) → P s → row_at part_key (part_key p) (parts_in s) ≡ Some p → message_at p.id (messages_in s) ≡ Some m
      → is_open_part p (Some m) ≡ true → P (part_ended v p m s)
  part_ended_firm Settled p m s k there of waits =
      let b = and_parts (not p.progress.is_done) (is_pending m) waits in c.settled p m s k there of b.1 (not-true p.progress.is_done b.0)
  part_ended_firm HandsetFull p m s k there of waits = k
  part_ended_firm Again p m s k there of waits = c.part_far p (tried s.moment p.progress) s k there refl
  part_ended_firm Refused p m s k there of waits =
      c.ended Undeliverable m s k (message_own p.id m s of) (and_parts (not p.progress.is_done) (is_pending m) waits).1 refl
  part_ended_firm Late p m s k there of waits = k

  part_ended_of_firm : (v : Verdict) (p : PartRow) (o : Option MessageRow) (s : Store) → P s → row_at part_key (part_key p) (parts_in s) ≡ Some p → message_at p.id (messages_in s) ≡ o
      → is_open_part p o ≡ true → P (part_ended_of v p o s)
  part_ended_of_firm v p None s k there of waits = absurd cc
  part_ended_of_firm v p (Some m) s k there of waits = part_ended_firm v p m s k there of waits

  part_ended_at_firm : (v : Verdict) (key : ℕ) (o : Option PartRow) (s : Store) → P s → row_at part_key key (parts_in s) ≡ o → is_open_part_at o s ≡ true → P (part_ended_at v o s)
  part_ended_at_firm v key None s k there waits = absurd cc
  part_ended_at_firm v key (Some p) s k there waits = part_ended_of_firm v p (message_at p.id (messages_in s)) s k (part_own key p s there) refl waits

  report_ended_firm : (v : Verdict) (r : ReportRow) (s : Store) → P s → report_of r.id (reports_in s) ≡ Some r → is_open_status r ≡ true → P (report_ended v r s)
  report_ended_firm Settled r s k there is = c.report_far r (finished r.progress) s k there (inr is)
  report_ended_firm HandsetFull r s k there is = k
  report_ended_firm Again r s k there is = c.report_far r (tried s.moment r.progress) s k there (inl refl)
  report_ended_firm Refused r s k there is = c.report_far r (finished r.progress) s k there (inr is)
  report_ended_firm Late r s k there is = k

  report_ended_at_firm : (v : Verdict) (id : ℕ) (o : Option ReportRow) (s : Store) → P s → report_of id (reports_in s) ≡ o → is_open_status_at o ≡ true → P (report_ended_at v o s)
  report_ended_at_firm v id None s k there is = k
  report_ended_at_firm v id (Some r) s k there is = report_ended_firm v r s k (report_own id r s there) is

  open_ended_firm : (v : Verdict) (h : Holder) (s : Store) → P s → is_open h s ≡ true → P (holder_ended v h s)
  open_ended_firm v (Part id number) s k waits = part_ended_at_firm v (pair_key id number) (part_at id number (parts_in s)) s k refl waits
  open_ended_firm v (Report id) s k waits = report_ended_at_firm v id (report_of id (reports_in s)) s k refl waits
  open_ended_firm v (Entry n) s k waits = k
  open_ended_firm v (Memory n) s k waits = k

  -- ---- what waits no more is left as it is

  late_of : (p : PartRow) (o : Option MessageRow) (s : Store) → P s → P (part_ended_of Late p o s)
  late_of p None s k = k
  late_of p (Some m) s k = k

  late_part : (o : Option PartRow) (s : Store) → P s → P (part_ended_at Late o s)
  late_part None s k = k
  late_part (Some p) s k = late_of p (message_at p.id (messages_in s)) s k

  late_report : (o : Option ReportRow) (s : Store) → P s → P (report_ended_at Late o s)
  late_report None s k = k
  late_report (Some r) s k = k

  late_firm : (h : Holder) (s : Store) → P s → P (holder_ended Late h s)
  late_firm (Part id number) s k = late_part (part_at id number (parts_in s)) s k
  late_firm (Report id) s k = late_report (report_of id (reports_in s)) s k
  late_firm (Entry n) s k = k
  late_firm (Memory n) s k = k

  pub concluded_firm : (h : Holder) (e : Ending) (s : Store) → P s → P (holder_ended (verdict_on h e s) h s)
  concluded_firm h e s k =
      cond_both (is_open h s) (verdict_of e) Late (λ v. P (holder_ended v h s)) (λ waits. open_ended_firm (verdict_of e) h s k waits) (λ t. late_firm h s k)

  -- ---- due now

  part_due_firm : (key : ℕ) (o : Option PartRow) (s : Store) → P s → row_at part_key key (parts_in s) ≡ o → P (part_due o s)
  part_due_firm key None s k there = k
  part_due_firm key (Some p) s k there = c.part_far p (due_at s.moment p.progress) s k (part_own key p s there) refl

  report_due_firm : (id : ℕ) (o : Option ReportRow) (s : Store) → P s → report_of id (reports_in s) ≡ o → P (report_due o s)
  report_due_firm id None s k there = k
  report_due_firm id (Some r) s k there = c.report_far r (due_at s.moment r.progress) s k (report_own id r s there) (inl refl)

  queued_due_firm : (l : QueuedPart) (s : Store) → P s → P (queued_due l s)
  queued_due_firm l s k =
      cond_both (l.number == 0) (report_due (report_of l.id (reports_in s)) s) (part_due (part_at l.id l.number (parts_in s)) s) P
      (λ t. report_due_firm l.id (report_of l.id (reports_in s)) s k refl) (λ t. part_due_firm (pair_key l.id l.number) (part_at l.id l.number (parts_in s)) s k refl)

  pub all_due_firm : (ls : List QueuedPart) (s : Store) → P s → P (all_due ls s)
  all_due_firm [] s k = k
  all_due_firm (l ∷ ls) s k = all_due_firm ls (queued_due l s) (queued_due_firm l s k)

  pub due_now_firm : (handset : List ℕ) (s : Store) → P s → P (due_now handset s)
  due_now_firm handset s k = all_due_firm (waiting_in handset s) s k

pub concluded_steady : (P : Store → Type 0) → IsStill P → (h : Holder) (e : Ending) (s : Store) → P s → P (holder_ended (verdict_on h e s) h s)
concluded_steady P c h e s k = concluded_firm P (firm_of P c) h e s k

pub due_now_steady : (P : Store → Type 0) → IsStill P → (handset : List ℕ) (s : Store) → P s → P (due_now handset s)
due_now_steady P c handset s k = due_now_firm P (firm_of P c) handset s k

-- What waits for a handset is open, and stays so while it becomes due.
use Rattle.std.proofs.Common.{◌≡◌, ℕ, List, [], ◌∷◌, Bool, true, false, Option, Some, None, refl, sym, ◌∙◌, ap, subst, inl, inr, ⊎_elim, eq-eqb}
use Rattle.std.specs.Prelude.{◌&&◌, ◌==◌, not}
use Rattle.std.specs.Str.{bytes_eq}
use Rattle.std.proofs.lemmas.Bool.{and_from, and_parts, cases_Bool, cases_eq, cond-false, cond-true, cond_both, ne_eqb}
use Rattle.sms_base.specs.Among.{Among}
use Rattle.sms_rows.specs.table.Keys.{pair_key}
use Rattle.sms_rows.specs.table.Table.{row_at}
use Rattle.sms_rows.proofs.table.Tables.{among_found}
use Rattle.sms_centre_rows.specs.declared.messages.message.MessageRow.{MessageRow}
use Rattle.sms_centre_rows.specs.declared.messages.part.PartRow.{PartRow}
use Rattle.sms_centre_rows.specs.messages.Messages.{is_pending, message_at, part_at, part_key, part_reaching}
use Rattle.sms_centre_rows.specs.messages.OpenParts.{is_open_part, part_queued, part_wait, waits_for}
use Rattle.sms_centre_rows.proofs.messages.PartRows.{part_amended, part_amended_other}
use Rattle.sms_centre_rows.specs.declared.reports.report.ReportRow.{ReportRow}
use Rattle.sms_centre_rows.specs.reports.Reports.{is_open_status, is_status, report_of, report_reaching}
use Rattle.sms_centre_rows.specs.reports.Waiting.{report_queued, report_wait, reports_to}
use Rattle.sms_centre_rows.proofs.reports.AllWaiting.{part_waits_at, report_waits_at, rises_all}
use Rattle.sms_centre_rows.proofs.reports.FewWaiting.{all_few}
use Rattle.sms_centre_rows.proofs.reports.ReportRows.{amended_other, amended_own}
use Rattle.sms_centre_rows.specs.declared.waiting.queued_part.QueuedPart.{QueuedPart}
use Rattle.sms_centre_rows.specs.declared.waiting.progress.Progress.{Progress}
use Rattle.sms_centre_rows.specs.waiting.Keys.{queued_key}
use Rattle.sms_centre_rows.specs.waiting.Trying.{due_at}
use Rattle.sms_centre_spec.specs.Receiving.{all_due, queued_due, part_due, report_due}
use Rattle.sms_centre_spec.proofs.Steady.{part_own, report_own}
use Rattle.sms_centre_draft.specs.CentreDraft.{Represents, CentreDraftOf}
use Rattle.sms_centre_spec.specs.Draft.{Draft, Store, in_store, messages_in, parts_in, priorities_in, reports_in, waiting_in, with_part_at, with_report_at}
use Rattle.sms_centre_spec.specs.Held.{SoundHeld}
use Rattle.sms_centre_spec.specs.Transfers.{is_open_part_at, is_open_status_at}
use Rattle.sms_centre_draft.specs.DueNow.{IsOpenQueued}

-- ---- what waits is open

waits_open : (h : List ℕ) (p : PartRow) (o : Option MessageRow) → waits_for h p o ≡ true → is_open_part p o ≡ true
waits_open h p None e = absurd cc
waits_open h p (Some m) e =
    let a = and_parts (not p.progress.is_done) (is_pending m && bytes_eq m.handset h) e in
    and_from (not p.progress.is_done) (is_pending m) a.0 (and_parts (is_pending m) (bytes_eq m.handset h) a.1).0

part_open : (h : List ℕ) (s : Store) (o : Option PartRow) (l : QueuedPart) → part_wait h (messages_in s) (priorities_in s) o ≡ Some l → is_open_part_at o s ≡ true
part_open h s None l e = absurd cc
part_open h s (Some p) l e = ⊎_elim
    (λ (t : waits_for h p (message_at p.id (messages_in s)) ≡ true). waits_open h p (message_at p.id (messages_in s)) t)
    (λ (t : waits_for h p (message_at p.id (messages_in s)) ≡ false).
    let bad : None ≡ Some l = sym (cond-false (waits_for h p (message_at p.id (messages_in s))) (Some (part_queued p (priorities_in s))) None t) ∙ e in absurd cc)
    (cases_Bool (waits_for h p (message_at p.id (messages_in s))))

reports_open : (h : List ℕ) (r : ReportRow) (o : Option MessageRow) → reports_to h r o ≡ true → is_open_status r ≡ true
reports_open h r None e = absurd cc
reports_open h r (Some m) e = (and_parts (is_open_status r) (bytes_eq m.source.digits h) e).0

status_open : (h : List ℕ) (s : Store) (o : Option ReportRow) (l : QueuedPart) → report_wait h (messages_in s) o ≡ Some l → is_open_status_at o ≡ true
status_open h s None l e = absurd cc
status_open h s (Some r) l e = ⊎_elim
    (λ (t : reports_to h r (message_at r.id (messages_in s)) ≡ true). reports_open h r (message_at r.id (messages_in s)) t)
    (λ (t : reports_to h r (message_at r.id (messages_in s)) ≡ false).
    let bad : None ≡ Some l = sym (cond-false (reports_to h r (message_at r.id (messages_in s))) (Some (report_queued r)) None t) ∙ e in absurd cc)
    (cases_Bool (reports_to h r (message_at r.id (messages_in s))))

pub waiting_open : (h : List ℕ) (s : Store) (l : QueuedPart) → SoundHeld s → Among l (waiting_in h s) → IsOpenQueued l s
waiting_open h s l held among =
    let ms : List MessageRow = messages_in s in
    let rises = rises_all h ms (priorities_in s) (parts_in s) (reports_in s) held.parts in
    let small = all_few h ms (priorities_in s) (parts_in s) (reports_in s) held.parts l among in
    let found : row_at queued_key (pair_key l.id l.number) (waiting_in h s) ≡ Some l = among_found queued_key l (waiting_in h s) rises among in
    record {
      small = small;
      part = λ some. part_open h s (part_at l.id l.number (parts_in s)) l
          (sym (part_waits_at h ms (priorities_in s) (parts_in s) (reports_in s) l.id l.number held.parts some small) ∙ found);
      status = λ zero. status_open h s (report_of l.id (reports_in s)) l
          (sym (report_waits_at h ms (priorities_in s) (parts_in s) (reports_in s) l.id held.parts held.alone)
          ∙ ap (λ (n : ℕ). row_at queued_key (pair_key l.id n) (waiting_in h s)) (sym zero) ∙ found);
    }

-- ---- it stays so where a part or a report becomes due

-- messages stay
part_same : (o : Option PartRow) (s : Store) (p : PartRow) (q : Progress) → is_open_part_at o (with_part_at p q s) ≡ is_open_part_at o s
part_same None s p q = refl
part_same (Some x) s p q = refl

report_same : (o : Option PartRow) (s : Store) (r : ReportRow) (q : Progress) → is_open_part_at o (with_report_at r q s) ≡ is_open_part_at o s
report_same None s r q = refl
report_same (Some x) s r q = refl

pub open_part_far : (s : Store) (p : PartRow) (q : Progress) (l : QueuedPart) → row_at part_key (part_key p) (parts_in s) ≡ Some p → q.is_done ≡ p.progress.is_done → IsOpenQueued l s → IsOpenQueued l (with_part_at p q s)
open_part_far s p q l there same is = record {
  small = is.small;
  part = λ some. part_same (part_at l.id l.number (parts_in (with_part_at p q s))) s p q ∙ ⊎_elim
      (λ (e : part_key p ≡ pair_key l.id l.number).
      let now : part_at l.id l.number (parts_in (with_part_at p q s)) ≡ Some (part_reaching q p) =
      subst (λ (k : ℕ). row_at part_key k (parts_in (with_part_at p q s)) ≡ Some (part_reaching q p)) e (part_amended p q (parts_in s) there) in
      let was : part_at l.id l.number (parts_in s) ≡ Some p = subst (λ (k : ℕ). row_at part_key k (parts_in s) ≡ Some p) e there in
      ap (λ (o : Option PartRow). is_open_part_at o s) now
      ∙ by (message_at p.id (messages_in s)) ∙ ap (λ (o : Option PartRow). is_open_part_at o s) (sym was) ∙ is.part some)
      (λ (e : part_key p ≡ pair_key l.id l.number → ⊥).
      ap (λ (o : Option PartRow). is_open_part_at o s) (part_amended_other p q (parts_in s) (pair_key l.id l.number) e) ∙ is.part some)
      (cases_eq (part_key p) (pair_key l.id l.number));
  status = is.status;
}
  where
    by : (o : Option MessageRow) → is_open_part (part_reaching q p) o ≡ is_open_part p o
    by None = refl
    by (Some m) = ap (λ (b : Bool). not b && is_pending m) same

pub open_report_far : (s : Store) (r : ReportRow) (q : Progress) (l : QueuedPart) → SoundHeld s → report_of r.id (reports_in s) ≡ Some r → q.is_done ≡ r.progress.is_done → IsOpenQueued l s → IsOpenQueued l (with_report_at r q s)
open_report_far s r q l held there same is = record {
  small = is.small;
  part = λ some. report_same (part_at l.id l.number (parts_in s)) s r q ∙ is.part some;
  status = λ zero. ⊎_elim
      (λ (e : r.id ≡ l.id).
      let now : report_of l.id (reports_in (with_report_at r q s)) ≡ Some (report_reaching q r) =
      subst (λ (k : ℕ). report_of k (reports_in (with_report_at r q s)) ≡ Some (report_reaching q r)) e (amended_own r q (reports_in s) there) in
      let was : report_of l.id (reports_in s) ≡ Some r = subst (λ (k : ℕ). report_of k (reports_in s) ≡ Some r) e there in
      ap (λ (o : Option ReportRow). is_open_status_at o) now
      ∙ ap (λ (b : Bool). is_status r.kind && not b) same ∙ ap (λ (o : Option ReportRow). is_open_status_at o) (sym was) ∙ is.status zero)
      (λ (e : r.id ≡ l.id → ⊥).
      ap (λ (o : Option ReportRow). is_open_status_at o) (amended_other l.id r q (reports_in s) held.report_keys there e) ∙ is.status zero)
      (cases_eq r.id l.id);
}

-- whatever becomes due
pub due_open : (l x : QueuedPart) (s : Store) → SoundHeld s → IsOpenQueued x s → IsOpenQueued x (queued_due l s)
due_open l x s held is =
    cond_both (l.number == 0) (report_due (report_of l.id (reports_in s)) s) (part_due (part_at l.id l.number (parts_in s)) s) (λ (e : Store). IsOpenQueued x e)
    (λ t. by_report (report_of l.id (reports_in s)) refl) (λ t. by_part (part_at l.id l.number (parts_in s)) refl)
  where
    by_report : (o : Option ReportRow) → report_of l.id (reports_in s) ≡ o → IsOpenQueued x (report_due o s)
    by_report None e = is
    by_report (Some r) e = open_report_far s r (due_at s.moment r.progress) x held (report_own l.id r s e) refl is

    by_part : (o : Option PartRow) → part_at l.id l.number (parts_in s) ≡ o → IsOpenQueued x (part_due o s)
    by_part None e = is
    by_part (Some p) e = open_part_far s p (due_at s.moment p.progress) x (part_own (pair_key l.id l.number) p s e) refl is

-- ---- a walk over what waits

-- those behind a place are open, and are still to become due
pub record IsLeft (d : Draft) (all_queued rest : List QueuedPart) (w : CentreDraftOf) : Type 0 where
  pub store : Store
  pub represents : Represents (in_store store d) w
  pub each : (x : QueuedPart) → Among x rest → IsOpenQueued x store
  pub goes : all_due rest store ≡ all_due all_queued d.store

pub left_next : (d : Draft) (all_queued rest : List QueuedPart) (l : QueuedPart) (behind : List QueuedPart) (w new : CentreDraftOf) → rest ≡ l ∷ behind → IsLeft d all_queued rest w
    → ((e : Draft) → Represents e w → IsOpenQueued l e.store → Represents (in_store (queued_due l e.store) e) new) → IsLeft d all_queued behind new
left_next d all_queued rest l behind w new split left step =
    let s : Store = left.store in
    let here : IsOpenQueued l s = left.each l (subst (λ (ls : List QueuedPart). Among l ls) (sym split) (inl refl)) in
    record {
      store = queued_due l s;
      represents = step (in_store s d) left.represents here;
      each = λ x among. due_open l x s left.represents.consistent.held (left.each x (subst (λ (ls : List QueuedPart). Among x ls) (sym split) (inr among)));
      goes = sym (ap (λ (ls : List QueuedPart). all_due ls s) split) ∙ left.goes;
    }

pub left_none : (d : Draft) (all_queued rest : List QueuedPart) (w : CentreDraftOf) → rest ≡ [] → IsLeft d all_queued rest w → Represents (in_store (all_due all_queued d.store) d) w
left_none d all_queued rest w none left =
    subst (λ (s : Store). Represents (in_store s d) w) (sym (ap (λ (ls : List QueuedPart). all_due ls left.store) none) ∙ left.goes) left.represents

-- ---- one queued part

pub queued_is_status : (l : QueuedPart) (s : Store) → l.number ≡ 0 → report_due (report_of l.id (reports_in s)) s ≡ queued_due l s
queued_is_status l s zero = sym (cond-true (l.number == 0) (report_due (report_of l.id (reports_in s)) s) (part_due (part_at l.id l.number (parts_in s)) s) (eq-eqb l.number 0 zero))

pub queued_is_part : (l : QueuedPart) (s : Store) → ¬ (l.number ≡ 0) → part_due (part_at l.id l.number (parts_in s)) s ≡ queued_due l s
queued_is_part l s some = sym (cond-false (l.number == 0) (report_due (report_of l.id (reports_in s)) s) (part_due (part_at l.id l.number (parts_in s)) s) (ne_eqb l.number 0 some))

-- Each stage of an event keeps what stood in the rows.
use Rattle.std.proofs.Common.{◌≡◌, ℕ, List, Bool, true, false, Option, Some, None, refl, sym, ◌∙◌, ap, subst, ⊎_elim}
use Rattle.std.specs.Prelude.{is_none}
use Rattle.std.proofs.lemmas.Bool.{cases_Bool, cases_eq, cond_both}
use Rattle.sms_base.specs.Among.{Among}
use Rattle.sms_base.specs.declared.final_state.FinalState.{FinalState}
use Rattle.sms_base.specs.declared.final_state.FinalState.TheVariants.{Delivered}
use Rattle.sms_rows.specs.table.Keys.{pair_key}
use Rattle.sms_rows.specs.table.Table.{put, row_at}
use Rattle.sms_rows.proofs.table.Tables.{row_at_put, row_at_put_other}
use Rattle.sms_centre_rows.specs.declared.messages.message.MessageRow.{MessageRow}
use Rattle.sms_base.specs.declared.originator.Originator.{Originator}
use Rattle.sms_base.specs.declared.originator.Originator.TheVariants.{Application, Handset}
use Rattle.sms_centre_rows.specs.declared.messages.part.PartRow.{PartRow}
use Rattle.sms_centre_rows.specs.messages.Messages.{all_done, ended, is_pending, message_at, message_key, part_at, part_key, part_reaching}
use Rattle.sms_centre_rows.proofs.messages.PartRows.{part_amended, part_amended_other}
use Rattle.sms_centre_rows.specs.declared.reports.report.ReportKind.{ReportKind}
use Rattle.sms_centre_rows.specs.declared.reports.report.ReportKind.TheVariants.{Receipt, Status, Unsent}
use Rattle.sms_centre_rows.specs.declared.reports.report.ReportRow.{ReportRow}
use Rattle.sms_centre_rows.specs.reports.Reports.{next_place, report_key, report_of, report_reaching}
use Rattle.sms_centre_rows.proofs.reports.AllWaiting.{report_found}
use Rattle.sms_centre_rows.proofs.reports.ReportRows.{amended_other, amended_own, new_report_other}
use Rattle.sms_centre_rows.specs.declared.waiting.handset.HandsetRow.{HandsetRow}
use Rattle.sms_centre_rows.specs.declared.waiting.progress.Progress.{Progress}
use Rattle.sms_centre_rows.specs.waiting.References.{handset_of}
use Rattle.sms_centre_rows.specs.waiting.Trying.{finished}
use Rattle.sms_centre_spec.specs.Finals.{final_of}
use Rattle.sms_centre_spec.specs.declared.rows.Rows.{Rows}
use Rattle.sms_centre_spec.specs.Draft.{Store, handsets_in, messages_in, parts_in, reports_in, rows_of, with_message, with_part_at, with_report_at}
use Rattle.sms_centre_spec.specs.Ends.{end, is_wished, make_report, report_to, status_given}
use Rattle.sms_centre_spec.specs.Keeping.{IsMessageStill, IsPartStill, IsReportStill, Keeps}
use Rattle.sms_receipt.specs.StatusReports.{status_octets}
use Rattle.sms_centre_spec.specs.Consistent.{IsConsistent}
use Rattle.sms_centre_spec.specs.Submitting.{reference_for}
use Rattle.sms_centre_spec.specs.Transfers.{complete}
use Rattle.sms_centre_spec.proofs.StagesConsistent.{CanReport, can_report, next_is_new}
use Rattle.sms_centre_spec.proofs.Steady.{message_own}

-- ---- rows are as they are, and change after change

pub same_message : (m : MessageRow) → IsMessageStill m m
same_message m = record { handset = refl; source = refl; originator = refl; split = refl; final = λ f e. refl }

pub same_part : (p : PartRow) → IsPartStill p p
same_part p = record { id = refl; reference = refl; tpdu = refl; done = λ e. e }

pub same_report : (r : ReportRow) → IsReportStill r r
same_report r = record { kind = refl; made = refl; closed = λ e. e }

pub keeps_same : (rows : Rows) → Keeps rows rows
keeps_same rows = record {
  messages = λ id m e. (m, (e, same_message m));
  parts = λ id n p e. (p, (e, same_part p));
  reports = λ id r e. (r, (e, same_report r));
}

pub keeps_then : (a b c : Rows) → Keeps a b → Keeps b c → Keeps a c
keeps_then a b c f g = record {
  messages = λ id m e.
      let x = f.messages id m e in
      let y = g.messages id x.0 x.1.0 in (
        y.0,
        (
          y.1.0,
          record {
            handset = y.1.1.handset ∙ x.1.1.handset;
            source = y.1.1.source ∙ x.1.1.source;
            originator = y.1.1.originator ∙ x.1.1.originator;
            split = y.1.1.split ∙ x.1.1.split;
            final = λ state q.
                let same : x.0 ≡ m = x.1.1.final state q in
                y.1.1.final state (ap (λ (z : MessageRow). z.state) same ∙ q) ∙ same;
          },
        ),
      );
  parts = λ id n p e.
      let x = f.parts id n p e in
      let y = g.parts id n x.0 x.1.0 in
      (y.0, (y.1.0, record { id = y.1.1.id ∙ x.1.1.id; reference = y.1.1.reference ∙ x.1.1.reference; tpdu = y.1.1.tpdu ∙ x.1.1.tpdu; done = λ t. y.1.1.done (x.1.1.done t) }));
  reports = λ id r e.
      let x = f.reports id r e in
      let y = g.reports id x.0 x.1.0 in
      (y.0, (y.1.0, record { kind = y.1.1.kind ∙ x.1.1.kind; made = y.1.1.made ∙ x.1.1.made; closed = λ t. y.1.1.closed (x.1.1.closed t) }));
}

-- ---- a message ends

end_row_keeps : (f : FinalState) (n : ℕ) (m : MessageRow) (s : Store) → message_at m.id (messages_in s) ≡ Some m → is_pending m ≡ true → Keeps (rows_of s) (rows_of (with_message (ended f n m) s))
end_row_keeps f n m s there pending = record {
  messages = λ id x e. ⊎_elim
      (λ (q : m.id ≡ id).
      let w : MessageRow = ended f n m in
      let found : message_at id (put message_key w (messages_in s)) ≡ Some w = subst (λ (i : ℕ). message_at i (put message_key w (messages_in s)) ≡ Some w) q (row_at_put message_key w (messages_in s)) in
      let same : m ≡ x = is_same x (sym there ∙ ap (λ (i : ℕ). message_at i (messages_in s)) q ∙ e) in
      let is : (y : MessageRow) × ((message_at id (put message_key w (messages_in s)) ≡ Some y) × IsMessageStill x y) = (w, (found, subst (λ (y : MessageRow). IsMessageStill y w) same still)) in is)
      (λ (ne : m.id ≡ id → ⊥). (x, (row_at_put_other message_key id (ended f n m) (messages_in s) ne ∙ e, same_message x)))
      (cases_eq m.id id);
  parts = λ id k p e. (p, (e, same_part p));
  reports = λ id r e. (r, (e, same_report r));
}
  where
    is_same : (x : MessageRow) → Some m ≡ Some x → m ≡ x
    is_same x e = cc

    over : (state : FinalState) → m.state ≡ Some state → ⊥
    over state e = let bad : true ≡ false = sym pending ∙ ap (λ (o : Option FinalState). is_none o) e in absurd cc

    still : IsMessageStill m (ended f n m)
    still = record { handset = refl; source = refl; originator = refl; split = refl; final = λ state e. absurd (over state e) }

-- ---- a report comes

report_row_keeps : (r : ReportRow) (s : Store) → IsConsistent s → ((x : ReportRow) → Among x (reports_in s) → ¬ (x.id ≡ r.id)) → r.place ≡ next_place (reports_in s)
    → (id : ℕ) (x : ReportRow) → report_of id (reports_in s) ≡ Some x → (y : ReportRow) × ((report_of id (put report_key r (reports_in s)) ≡ Some y) × IsReportStill x y)
report_row_keeps r s k none next id x e =
    let at = report_found id x (reports_in s) e in
    (x, (new_report_other id r (reports_in s) (next_is_new r (reports_in s) k.held.report_keys none next) (λ q. none x at.0 (at.1 ∙ sym q)) ∙ e, same_report x))

abbrev pub report_of_end : ℕ → ReportKind → Bool → Store → ReportRow
report_of_end id kind closed s = record {
  place = next_place (reports_in s);
  id = id;
  kind = kind;
  made = s.moment;
  progress = record { is_done = closed; attempts = 0; due = s.moment };
}

made_keeps : (f : FinalState) (n : ℕ) (m : MessageRow) (kind : ReportKind) (closed : Bool) (s : Store) → CanReport f n m s → Keeps (rows_of s) (rows_of (make_report m.id kind closed s))
made_keeps f n m kind closed s can = record {
  messages = λ id x e. (x, (e, same_message x));
  parts = λ id k p e. (p, (e, same_part p));
  reports = report_row_keeps (report_of_end m.id kind closed s) s can.consistent can.none refl;
}

status_keeps : (f : FinalState) (n : ℕ) (m : MessageRow) (h : HandsetRow) (o : Option ℕ) (s : Store) → CanReport f n m s → Keeps (rows_of s) (rows_of (status_given f m h o s))
status_keeps f n m h None s can = made_keeps f n m Unsent true s can
status_keeps f n m h (Some reference) s can = record {
  messages = λ id x e. (x, (e, same_message x));
  parts = λ id k p e. (p, (e, same_part p));
  reports = report_row_keeps (report_of_end m.id (Status reference (status_octets (final_of f s.moment m))) false s) s can.consistent can.none refl;
}

report_keeps : (o : Originator) (f : FinalState) (n : ℕ) (m : MessageRow) (s : Store) → CanReport f n m s → Keeps (rows_of s) (rows_of (report_to o f m s))
report_keeps (Application account) f n m s can = made_keeps f n m Receipt false s can
report_keeps (Handset mr) f n m s can = let h : HandsetRow = handset_of m.source.digits (handsets_in s) in status_keeps f n m h (reference_for h s) s can

pub end_keeps : (f : FinalState) (m : MessageRow) (s : Store) → IsConsistent s → message_at m.id (messages_in s) ≡ Some m → is_pending m ≡ true → Keeps (rows_of s) (rows_of (end f m s))
end_keeps f m s k there pending =
    let e : Store = with_message (ended f s.moment m) s in
    let row : Keeps (rows_of s) (rows_of e) = end_row_keeps f s.moment m s there pending in
    let can = can_report f m s k there pending in
    cond_both (is_wished m.wish f) (report_to m.originator f m e) e (λ (x : Store). Keeps (rows_of s) (rows_of x))
    (λ t. keeps_then (rows_of s) (rows_of e) (rows_of (report_to m.originator f m e)) row (report_keeps m.originator f s.moment m e can)) (λ t. row)

-- ---- how far parts and reports are

pub part_far_keeps : (p : PartRow) (q : Progress) (s : Store) → row_at part_key (part_key p) (parts_in s) ≡ Some p → (p.progress.is_done ≡ true → q.is_done ≡ true) → Keeps (rows_of s) (rows_of (with_part_at p q s))
part_far_keeps p q s there done = record {
  messages = λ id m e. (m, (e, same_message m));
  parts = λ id n x e. ⊎_elim
      (λ (i : part_key p ≡ pair_key id n).
      let after : List PartRow = parts_in (with_part_at p q s) in
      let found : part_at id n after ≡ Some (part_reaching q p) = subst (λ (k : ℕ). row_at part_key k after ≡ Some (part_reaching q p)) i (part_amended p q (parts_in s) there) in
      let same : p ≡ x = is_same x (sym there ∙ ap (λ (k : ℕ). row_at part_key k (parts_in s)) i ∙ e) in
      let is : (y : PartRow) × ((part_at id n after ≡ Some y) × IsPartStill x y) = (part_reaching q p, (found, subst (λ (y : PartRow). IsPartStill y (part_reaching q p)) same still)) in is)
      (λ (ne : part_key p ≡ pair_key id n → ⊥). (x, (part_amended_other p q (parts_in s) (pair_key id n) ne ∙ e, same_part x)))
      (cases_eq (part_key p) (pair_key id n));
  reports = λ id r e. (r, (e, same_report r));
}
  where
    is_same : (x : PartRow) → Some p ≡ Some x → p ≡ x
    is_same x e = cc

    still : IsPartStill p (part_reaching q p)
    still = record { id = refl; reference = refl; tpdu = refl; done = done }

pub report_far_keeps : (r : ReportRow) (q : Progress) (s : Store) → IsConsistent s → report_of r.id (reports_in s) ≡ Some r → (q.is_done ≡ false → r.progress.is_done ≡ false) → Keeps (rows_of s) (rows_of (with_report_at r q s))
report_far_keeps r q s k there stays = record {
  messages = λ id m e. (m, (e, same_message m));
  parts = λ id n p e. (p, (e, same_part p));
  reports = λ id x e. ⊎_elim
      (λ (i : r.id ≡ id).
      let after : List ReportRow = reports_in (with_report_at r q s) in
      let found : report_of id after ≡ Some (report_reaching q r) = subst (λ (j : ℕ). report_of j after ≡ Some (report_reaching q r)) i (amended_own r q (reports_in s) there) in
      let same : r ≡ x = is_same x (sym there ∙ ap (λ (j : ℕ). report_of j (reports_in s)) i ∙ e) in
      let is : (y : ReportRow) × ((report_of id after ≡ Some y) × IsReportStill x y) = (report_reaching q r, (found, subst (λ (y : ReportRow). IsReportStill y (report_reaching q r)) same still)) in is)
      (λ (ne : r.id ≡ id → ⊥). (x, (amended_other id r q (reports_in s) k.held.report_keys there ne ∙ e, same_report x)))
      (cases_eq r.id id);
}
  where
    is_same : (x : ReportRow) → Some r ≡ Some x → r ≡ x
    is_same x e = cc

    closed : r.progress.is_done ≡ true → q.is_done ≡ true
    closed t = ⊎_elim
        (λ (e : q.is_done ≡ true). e)
        (λ (e : q.is_done ≡ false). let bad : true ≡ false = sym t ∙ stays e in absurd cc)
        (cases_Bool q.is_done)

    still : IsReportStill r (report_reaching q r)
    still = record { kind = refl; made = refl; closed = closed }

pub settled_keeps : (p : PartRow) (m : MessageRow) (s : Store) → IsConsistent (with_part_at p (finished p.progress) s) → row_at part_key (part_key p) (parts_in s) ≡ Some p → message_at p.id (messages_in s) ≡ Some m → is_pending m ≡ true
    → Keeps (rows_of s) (rows_of (complete m (with_part_at p (finished p.progress) s)))
settled_keeps p m s k there of pending =
    let e : Store = with_part_at p (finished p.progress) s in
    let far : Keeps (rows_of s) (rows_of e) = part_far_keeps p (finished p.progress) s there (λ t. refl) in
    cond_both (all_done m.id (parts_in e)) (end Delivered m e) e (λ (x : Store). Keeps (rows_of s) (rows_of x))
    (λ t. keeps_then (rows_of s) (rows_of e) (rows_of (end Delivered m e)) far (end_keeps Delivered m e k (message_own p.id m e of) pending)) (λ t. far)

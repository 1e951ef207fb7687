-- Rows that a centre can stand on stay so where a message ends and is reported.
use Rattle.std.proofs.Common.{◌≡◌, ℕ, ◌<◌, List, Bool, true, false, Option, Some, None, refl, sym, ◌∙◌, ap, subst, ⊎_elim, arith}
use Rattle.std.proofs.lemmas.Bool.{cond_both}
use Rattle.sms_base.specs.Among.{Among}
use Rattle.sms_base.specs.declared.final_state.FinalState.{FinalState}
use Rattle.sms_rows.specs.table.Table.{Rises, put}
use Rattle.sms_rows.proofs.table.Tables.{among_put, found_among}
use Rattle.sms_centre_rows.specs.declared.messages.message.MessageRow.{MessageRow}
use Rattle.sms_base.specs.declared.originator.Originator.{Originator}
use Rattle.sms_base.specs.declared.originator.Originator.TheVariants.{Application, Handset}
use Rattle.sms_centre_rows.specs.messages.Bars.{bar_key}
use Rattle.sms_centre_rows.specs.messages.Messages.{all_done, ended, is_pending, message_at, message_key}
use Rattle.sms_centre_rows.specs.messages.SplitReferences.{is_delivered}
use Rattle.sms_centre_rows.specs.declared.reports.report.ReportKind.{ReportKind}
use Rattle.sms_centre_rows.specs.declared.reports.report.ReportKind.TheVariants.{Receipt, Status, Unsent}
use Rattle.sms_centre_rows.specs.declared.reports.report.ReportRow.{ReportRow}
use Rattle.sms_centre_rows.specs.reports.Reports.{is_status, report_key}
use Rattle.sms_centre_rows.specs.reports.SoundReports.{FitsOriginator, IsReport, IsStatus, SoundReports}
use Rattle.sms_centre_rows.specs.declared.waiting.handset.HandsetRow.{HandsetRow}
use Rattle.sms_centre_rows.specs.declared.waiting.reference.ReferenceRow.{ReferenceRow}
use Rattle.sms_centre_rows.specs.waiting.Keys.{reference_key}
use Rattle.sms_centre_rows.specs.waiting.References.{given_row, handset_of}
use Rattle.sms_centre_rows.proofs.waiting.WaitingSound.{next_is_free}
use Rattle.sms_centre_spec.specs.Finals.{final_of}
use Rattle.sms_centre_spec.specs.Draft.{Store, bars_in, handsets_in, messages_in, parts_in, priorities_in, references_in, reports_in, waiting_in, with_message}
use Rattle.sms_centre_spec.specs.Ends.{end, is_wished, make_report, report_to, status_given}
use Rattle.sms_receipt.specs.StatusReports.{status_octets, status_report_of}
use Rattle.sms_centre_spec.specs.SoundRows.{AreSplitApart, HasReportAddress, IsSetup}
use Rattle.sms_centre_spec.specs.Consistent.{IsConsistent}
use Rattle.sms_centre_spec.specs.Submitting.{reference_for}
use Rattle.sms_centre_spec.proofs.SoundMessagesStay.{AreRows, StatesItsParts, ended_rows, rows_sound}
use Rattle.sms_centre_spec.proofs.NextNumbers.{some_next_place}
use Rattle.sms_centre_spec.proofs.SoundReportsStay.{end_reports, new_reports}
use Rattle.sms_centre_spec.proofs.SoundStores.{IsPast, SoundStore, Times}
use Rattle.sms_centre_spec.proofs.SplitsStayApart.{end_apart}
use Rattle.sms_centre_spec.proofs.StagesConsistent.{CanReport, can_report, next_is_new, quiet_consistent, status_consistent}
use Rattle.sms_centre_spec.proofs.TpdusRead.{status_reads}
use Rattle.sms_centre_spec.proofs.Keeping.{report_of_end}

-- ---- a message that has ended is reported

report_is : (f : FinalState) (n : ℕ) (m : MessageRow) (kind : ReportKind) (closed : Bool) (s : Store) → CanReport f n m s → FitsOriginator kind m.originator (ended f n m) (report_of_end m.id kind closed s)
    → IsReport (messages_in s) (report_of_end m.id kind closed s)
report_is f n m kind closed s can fits = record {
  place = some_next_place 1 (reports_in s) (omega arith);
  message = (ended f n m, (can.there, ((f, refl), fits)));
}

made_times : (r : ReportRow) (s : Store) → Times s → r.made ≡ s.moment → (x : ReportRow) → Among x (put report_key r (reports_in s)) → IsPast s.moment x.made
made_times r s t now x among = ⊎_elim
    (λ (e : x ≡ r).
    let same : x.made ≡ s.moment = ap (λ (y : ReportRow). y.made) e ∙ now in
    let past : IsPast s.moment s.moment = (t.now, omega arith) in
    subst (λ (k : ℕ). IsPast s.moment k) (sym same) past)
    (λ (a : Among x (reports_in s) × ¬ (x.place ≡ r.place)). t.made x a.0)
    (among_put report_key x r (reports_in s) among)

pub given_times : (g : ReferenceRow) (s : Store) → Times s → g.last ≡ s.moment → (x : ReferenceRow) → Among x (put reference_key g (references_in s)) → IsPast s.moment x.last
given_times g s t now x among = ⊎_elim
    (λ (e : x ≡ g).
    let same : x.last ≡ s.moment = ap (λ (y : ReferenceRow). y.last) e ∙ now in
    let past : IsPast s.moment s.moment = (t.now, omega arith) in
    subst (λ (k : ℕ). IsPast s.moment k) (sym same) past)
    (λ (a : Among x (references_in s) × ¬ (reference_key x ≡ reference_key g)). t.given x a.0)
    (among_put reference_key x g (references_in s) among)

quiet_sound : (f : FinalState) (n : ℕ) (m : MessageRow) (kind : ReportKind) (closed : Bool) (s : Store) → SoundStore s → CanReport f n m s → is_status kind ≡ false
    → FitsOriginator kind m.originator (ended f n m) (report_of_end m.id kind closed s) → SoundStore (make_report m.id kind closed s)
quiet_sound f n m kind closed s k can quiet fits =
    let r : ReportRow = report_of_end m.id kind closed s in
    record {
      consistent = quiet_consistent f n m kind closed s can quiet;
      messages = k.messages;
      reports = new_reports (messages_in s) (reports_in s) r k.reports (next_is_new r (reports_in s) k.reports.keys can.none refl) (report_is f n m kind closed s can fits);
      splits = k.splits;
      bars = k.bars;
      setup = k.setup;
      times = record { now = k.times.now; start = k.times.start; submitted = k.times.submitted; given = k.times.given; made = made_times r s k.times refl };
    }

status_sound : (f : FinalState) (n mr : ℕ) (m : MessageRow) (o : Option ℕ) (s : Store) → SoundStore s → CanReport f n m s → HasReportAddress (Handset mr) m.source → m.originator ≡ Handset mr
    → reference_for (handset_of m.source.digits (handsets_in s)) s ≡ o → SoundStore (status_given f m (handset_of m.source.digits (handsets_in s)) o s)
status_sound f n mr m None s k can told from next =
    quiet_sound f n m Unsent true s k can refl (subst (λ (o : Originator). FitsOriginator Unsent o (ended f n m) (report_of_end m.id Unsent true s)) (sym from) refl)
status_sound f n mr m (Some reference) s k can told from next =
    let h : HandsetRow = handset_of m.source.digits (handsets_in s) in
    let w : MessageRow = ended f n m in
    let tpdu : List ℕ = status_octets (final_of f s.moment m) in
    let kind : ReportKind = Status reference tpdu in
    let r : ReportRow = report_of_end m.id kind false s in
    let among : Among w (messages_in s) = found_among message_key m.id w (messages_in s) can.there in
    let small : reference < 256 = (next_is_free h (waiting_in h.number s) (references_in s) s.moment reference next).1 in
    let reads : IsStatus mr w s.moment tpdu (status_report_of (final_of f s.moment m)) =
    status_reads f s.moment mr m w k.times.now (k.times.submitted w among).0 (k.messages.each_message w among).handset from refl refl in
    let fits : FitsOriginator kind (Handset mr) w r = (small, (status_report_of (final_of f s.moment m), reads)) in
    record {
      consistent = status_consistent f n m (Some reference) s can told next;
      messages = k.messages;
      reports = new_reports (messages_in s) (reports_in s) r k.reports (next_is_new r (reports_in s) k.reports.keys can.none refl)
          (report_is f n m kind false s can (subst (λ (o : Originator). FitsOriginator kind o w r) (sym from) fits));
      splits = k.splits;
      bars = k.bars;
      setup = k.setup;
      times = record {
        now = k.times.now;
        start = k.times.start;
        submitted = k.times.submitted;
        given = given_times (given_row h reference s.moment) s k.times refl;
        made = made_times r s k.times refl;
      };
    }

report_sound : (o : Originator) (f : FinalState) (n : ℕ) (m : MessageRow) (s : Store) → SoundStore s → CanReport f n m s → HasReportAddress o m.source → m.originator ≡ o → SoundStore (report_to o f m s)
report_sound (Application account) f n m s k can told from =
    quiet_sound f n m Receipt false s k can refl (subst (λ (o : Originator). FitsOriginator Receipt o (ended f n m) (report_of_end m.id Receipt false s)) (sym from) tt)
report_sound (Handset mr) f n m s k can told from = status_sound f n mr m (reference_for (handset_of m.source.digits (handsets_in s)) s) s k can told from refl

-- ---- a message ends

-- all but what its row says of its parts is sound, and its row says that once it ends so
pub record CanEnd (f : FinalState) (m : MessageRow) (s : Store) : Type 0 where
  pub consistent : IsConsistent s
  pub rows : AreRows (λ x. ¬ (x.id ≡ m.id) → StatesItsParts (parts_in s) x) (messages_in s) (parts_in s) (priorities_in s)
  pub told : is_delivered (Some f) ≡ all_done m.id (parts_in s)
  pub reports : SoundReports (messages_in s) (reports_in s)
  pub splits : AreSplitApart (messages_in s)
  pub bars : Rises bar_key (bars_in s)
  pub setup : IsSetup s.setup
  pub times : Times s
  pub there : message_at m.id (messages_in s) ≡ Some m
  pub pending : is_pending m ≡ true

pub ended_sound : (f : FinalState) (m : MessageRow) (s : Store) → CanEnd f m s → SoundStore (with_message (ended f s.moment m) s)
ended_sound f m s c =
    let w : MessageRow = ended f s.moment m in
    let can = can_report f m s c.consistent c.there c.pending in
    let ps = parts_in s in
    record {
      consistent = can.consistent;
      messages = rows_sound (put message_key w (messages_in s)) ps (priorities_in s)
          (ended_rows (λ x. ¬ (x.id ≡ m.id) → StatesItsParts ps x) (StatesItsParts ps) (messages_in s) ps (priorities_in s) m f s.moment c.rows c.there c.told (λ x among ne told. told ne));
      reports = end_reports (messages_in s) (reports_in s) m f s.moment c.reports c.there c.pending;
      splits = end_apart (messages_in s) m f s.moment c.splits c.there c.pending;
      bars = c.bars;
      setup = c.setup;
      times = record {
        now = c.times.now;
        start = c.times.start;
        submitted = λ x among. ⊎_elim
            (λ (e : x ≡ w). subst (λ (y : MessageRow). IsPast s.moment y.submitted) (sym e) (c.times.submitted m (found_among message_key m.id m (messages_in s) c.there)))
            (λ (a : Among x (messages_in s) × ¬ (x.id ≡ m.id)). c.times.submitted x a.0)
            (among_put message_key x w (messages_in s) among);
        given = c.times.given;
        made = c.times.made;
      };
    }

pub end_sound : (f : FinalState) (m : MessageRow) (s : Store) → CanEnd f m s → SoundStore (end f m s)
end_sound f m s c =
    let e : Store = with_message (ended f s.moment m) s in
    let can = can_report f m s c.consistent c.there c.pending in
    let sound : SoundStore e = ended_sound f m s c in
    cond_both (is_wished m.wish f) (report_to m.originator f m e) e SoundStore
    (λ t. report_sound m.originator f s.moment m e sound can (c.consistent.report_addresses m (found_among message_key m.id m (messages_in s) c.there)) refl) (λ t. sound)

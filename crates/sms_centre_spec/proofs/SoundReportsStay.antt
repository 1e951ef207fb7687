-- Receipts and status reports that are sound stay so where a report is made or is so far, and where messages are accepted and end.
use Rattle.std.proofs.Common.{◌≡◌, ℕ, ◌<◌, List, true, false, Option, Some, refl, sym, ◌∙◌, ap, subst, ⊎_elim, arith}
use Rattle.std.specs.Prelude.{is_none, ◌⊎◌}
use Rattle.std.proofs.lemmas.Bool.{cases_Bool}
use Rattle.sms_base.specs.Among.{Among}
use Rattle.sms_base.specs.declared.final_state.FinalState.{FinalState}
use Rattle.sms_rows.specs.table.Table.{put, row_at}
use Rattle.sms_rows.proofs.table.Tables.{among_found, among_put, found_among, found_key, rises_put, row_at_put_other}
use Rattle.sms_centre_rows.specs.declared.messages.message.MessageRow.{MessageRow}
use Rattle.sms_base.specs.declared.originator.Originator.{Originator}
use Rattle.sms_base.specs.declared.originator.Originator.TheVariants.{Application, Handset}
use Rattle.sms_centre_rows.specs.messages.Messages.{ended, is_pending, message_at, message_key}
use Rattle.sms_centre_rows.specs.declared.reports.report.ReportKind.{ReportKind}
use Rattle.sms_centre_rows.specs.declared.reports.report.ReportKind.TheVariants.{Receipt, Status, Unsent}
use Rattle.sms_centre_rows.specs.declared.reports.report.ReportRow.{ReportRow}
use Rattle.sms_centre_rows.specs.reports.Reports.{report_key, report_of, report_reaching}
use Rattle.sms_centre_rows.specs.reports.SoundReports.{FitsOriginator, IsReport, SoundReports}
use Rattle.sms_centre_rows.specs.reports.Waiting.{IsReportApart}
use Rattle.sms_centre_rows.proofs.reports.AllWaiting.{report_found}
use Rattle.sms_centre_rows.specs.declared.waiting.progress.Progress.{Progress}
use Rattle.sms_centre_rows.specs.waiting.Revisions.{amended}
use Rattle.sms_centre_rows.proofs.waiting.Amending.{rises_amended}
use Rattle.sms_centre_spec.proofs.NextNumbers.{among_amended}

-- ---- messages come and end

-- messages that have ended stand there as before
messages_reports : (ms others : List MessageRow) (rs : List ReportRow) → SoundReports ms rs
    → ((id : ℕ) (x : MessageRow) (state : FinalState) → message_at id ms ≡ Some x → x.state ≡ Some state → message_at id others ≡ Some x) → SoundReports others rs
messages_reports ms others rs s stay = record {
  keys = s.keys;
  each = λ r among.
      let i = s.each r among in
      let m = i.message in
      record { place = i.place; message = (m.0, (stay r.id m.0 m.1.1.0.0 m.1.0 m.1.1.0.1, m.1.1)) };
  once = s.once;
}

pub end_reports : (ms : List MessageRow) (rs : List ReportRow) (m : MessageRow) (f : FinalState) (n : ℕ) → SoundReports ms rs → message_at m.id ms ≡ Some m → is_pending m ≡ true
    → SoundReports (put message_key (ended f n m) ms) rs
end_reports ms rs m f n s there pending =
    messages_reports ms (put message_key (ended f n m) ms) rs s
    (λ id x state found over. row_at_put_other message_key id (ended f n m) ms (λ e. apart x state (sym there ∙ ap (λ (i : ℕ). message_at i ms) e ∙ found) over) ∙ found)
  where
    apart : (x : MessageRow) (state : FinalState) → Some m ≡ Some x → x.state ≡ Some state → ⊥
    apart x state e over =
        let same : m ≡ x = cc in
        let bad : true ≡ false = sym pending ∙ ap (λ (y : MessageRow). is_pending y) same ∙ ap (λ (o : Option FinalState). is_none o) over in absurd cc

pub entered_reports : (ms : List MessageRow) (rs : List ReportRow) (m : MessageRow) → SoundReports ms rs → ((x : MessageRow) → Among x ms → x.id < m.id) → SoundReports (put message_key m ms) rs
entered_reports ms rs m s new =
    messages_reports ms (put message_key m ms) rs s
    (λ id x state found over.
    let low = new x (found_among message_key id x ms found) in
    let own = found_key message_key id x ms found in
    row_at_put_other message_key id m ms (λ e. omega (arith, e, low, own)) ∙ found)

-- ---- a report comes

pub new_reports : (ms : List MessageRow) (rs : List ReportRow) (r : ReportRow) → SoundReports ms rs → IsReportApart rs r → IsReport ms r → SoundReports ms (put report_key r rs)
new_reports ms rs r s new is = record {
  keys = rises_put report_key r rs s.keys;
  each = λ x among. ⊎_elim
      (λ (e : x ≡ r). subst (λ (y : ReportRow). IsReport ms y) (sym e) is)
      (λ (a : Among x rs × ¬ (x.place ≡ r.place)). s.each x a.0)
      (among_put report_key x r rs among);
  once = λ x y a b e. ⊎_elim
      (λ (p : x ≡ r). ⊎_elim
      (λ (q : y ≡ r). ap (λ (z : ReportRow). z.place) (p ∙ sym q))
      (λ (q : Among y rs × ¬ (y.place ≡ r.place)). absurd (new.message y q.0 (sym e ∙ ap (λ (z : ReportRow). z.id) p)))
      (among_put report_key y r rs b))
      (λ (p : Among x rs × ¬ (x.place ≡ r.place)). ⊎_elim
      (λ (q : y ≡ r). absurd (new.message x p.0 (e ∙ ap (λ (z : ReportRow). z.id) q)))
      (λ (q : Among y rs × ¬ (y.place ≡ r.place)). s.once x y p.0 q.0 e)
      (among_put report_key y r rs b))
      (among_put report_key x r rs a);
}

-- ---- a report is so far, and none that was closed is open again

fits_far : (k : ReportKind) (o : Originator) (m : MessageRow) (r : ReportRow) (q : Progress) → (r.progress.is_done ≡ true → q.is_done ≡ true) → FitsOriginator k o m r → FitsOriginator k o m (report_reaching q r)
fits_far Receipt (Application a) m r q f i = tt
fits_far Receipt (Handset n) m r q f i = i
fits_far (Status reference tpdu) (Application a) m r q f i = i
fits_far (Status reference tpdu) (Handset n) m r q f i = i
fits_far Unsent (Application a) m r q f i = i
fits_far Unsent (Handset n) m r q f i = f i

pub far_reports : (ms : List MessageRow) (rs : List ReportRow) (r : ReportRow) (q : Progress) → SoundReports ms rs → report_of r.id rs ≡ Some r → (q.is_done ≡ false → r.progress.is_done ≡ false)
    → SoundReports ms (amended report_key report_reaching (report_key r) q rs)
far_reports ms rs r q s there stays = record {
  keys = rises_amended report_key report_reaching (λ x y. refl) (report_key r) q rs s.keys;
  each = λ x among.
      let g = among_amended report_key report_reaching (report_key r) q x rs among in
      let i = s.each g.0 g.1.0 in
      ⊎_elim
      (λ (e : x ≡ g.0). subst (λ (y : ReportRow). IsReport ms y) (sym e) i)
      (λ (e : (report_key g.0 ≡ report_key r) × (x ≡ report_reaching q g.0)).
      subst (λ (y : ReportRow). IsReport ms y) (sym e.1) (still g.0 i (λ t. done (ap (λ (y : ReportRow). y.progress.is_done) (sym (own g.0 g.1.0 e.0)) ∙ t))))
      g.1.1;
  once = λ x y a b e.
      let g = among_amended report_key report_reaching (report_key r) q x rs a in
      let h = among_amended report_key report_reaching (report_key r) q y rs b in
      let i = same_ids x g.0 g.1.1 in
      let j = same_ids y h.0 h.1.1 in
      i.1 ∙ s.once g.0 h.0 g.1.0 h.1.0 (sym i.0 ∙ e ∙ j.0) ∙ sym j.1;
}
  where
    done : r.progress.is_done ≡ true → q.is_done ≡ true
    done t = ⊎_elim
        (λ (e : q.is_done ≡ true). e)
        (λ (e : q.is_done ≡ false). let bad : true ≡ false = sym t ∙ stays e in absurd cc)
        (cases_Bool q.is_done)

    still : (x : ReportRow) → IsReport ms x → (x.progress.is_done ≡ true → q.is_done ≡ true) → IsReport ms (report_reaching q x)
    still x i f = record { place = i.place; message = (i.message.0, (i.message.1.0, (i.message.1.1.0, fits_far x.kind i.message.0.originator i.message.0 x q f i.message.1.1.1))) }

    own : (x : ReportRow) → Among x rs → report_key x ≡ report_key r → x ≡ r
    own x among e =
        let at = report_found r.id r rs there in
        let same : Some x ≡ Some r = sym (among_found report_key x rs s.keys among) ∙ ap (λ (k : ℕ). row_at report_key k rs) e ∙ among_found report_key r rs s.keys at.0 in cc

    same_ids : (x y : ReportRow) → (x ≡ y) ⊎ ((report_key y ≡ report_key r) × (x ≡ report_reaching q y)) → (x.id ≡ y.id) × (x.place ≡ y.place)
    same_ids x y o = ⊎_elim
        (λ (e : x ≡ y). (ap (λ (z : ReportRow). z.id) e, ap (λ (z : ReportRow). z.place) e))
        (λ (e : (report_key y ≡ report_key r) × (x ≡ report_reaching q y)). (ap (λ (z : ReportRow). z.id) e.1, ap (λ (z : ReportRow). z.place) e.1))
        o

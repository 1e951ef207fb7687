-- What is kept is built of sound rows, one after the other.
use Rattle.std.proofs.Common.{◌≡◌, ℕ, ◌<◌, List, [], ◌∷◌, ◌++◌, Option, Some, None, true, refl, sym, ◌∙◌, ap, subst, inl, inr, ⊎_elim, arith}
use Rattle.sms_base.proofs.Lists.{among_front}
use Rattle.sms_base.specs.Among.{Among}
use Rattle.sms_rows.specs.table.Table.{Rises}
use Rattle.sms_centre_rows.specs.declared.messages.message.MessageRow.{MessageRow}
use Rattle.sms_base.specs.declared.originator.Originator.{Originator}
use Rattle.sms_base.specs.declared.originator.Originator.TheVariants.{Application, Handset}
use Rattle.sms_centre_rows.specs.messages.Messages.{message_at}
use Rattle.sms_centre_rows.specs.declared.reports.report.ReportKind.{ReportKind}
use Rattle.sms_centre_rows.specs.declared.reports.report.ReportKind.TheVariants.{Receipt, Status, Unsent}
use Rattle.sms_centre_rows.specs.declared.reports.report.ReportRow.{ReportRow}
use Rattle.sms_centre_rows.specs.reports.Reports.{is_receipt, report_key, report_of}
use Rattle.sms_centre_rows.specs.reports.SoundReports.{FitsOriginator, SoundReports}
use Rattle.sms_centre_rows.proofs.reports.AllWaiting.{report_found}
use Rattle.sms_centre_reports.specs.open_reports.Entries.{account_in, account_of}
use Rattle.sms_centre_reports.specs.open_reports.OpenReports.{OpenReportsOf, Represents}
use Rattle.sms_centre_reports.proofs.open_reports.Walking.{above_one}

-- ---- rows before one stand lower

among_here : (r : ReportRow) (done rest : List ReportRow) → Among r (done ++ r ∷ rest)
among_here r [] rest = inl refl
among_here r (d ∷ done) rest = inr (among_here r done rest)

place_before : (s r : ReportRow) (done rest : List ReportRow) → Rises report_key (done ++ r ∷ rest) → Among s done → s.place < r.place
place_before s r [] rest h m = elim m [ ]
place_before s r (d ∷ done) rest h m = ⊎_elim
    (λ (e : s ≡ d). subst (λ (x : ReportRow). x.place < r.place) (sym e) (above_one d.place r (done ++ r ∷ rest) h.0 (among_here r done rest)))
    (λ (k : Among s done). place_before s r done rest h.1 k)
    m

-- ---- its message

receipt_account : (k : ReportKind) (o : Originator) (m : MessageRow) (r : ReportRow) → is_receipt k ≡ true → FitsOriginator k o m r → (name : List ℕ) × (account_of o ≡ Some name)
receipt_account Receipt (Application account) m r e fits = (account, refl)
receipt_account Receipt (Handset n) m r e fits = absurd fits
receipt_account (Status reference tpdu) o m r e fits = absurd cc
receipt_account Unsent o m r e fits = absurd cc

module _ (ms : List MessageRow) (r : ReportRow) (done rest : List ReportRow) (sound : SoundReports ms (done ++ r ∷ rest)) where
  pub none_yet : report_of r.id done ≡ None
  none_yet = by (report_of r.id done) refl where
    by : (o : Option ReportRow) → report_of r.id done ≡ o → report_of r.id done ≡ None
    by None e = e
    by (Some s) e =
        let f = report_found r.id s done e in
        let l = place_before s r done rest sound.keys f.0 in
        let same = sound.once s r (among_front s done (r ∷ rest) f.0) (among_here r done rest) f.1 in
        absurd (omega (arith, l, same))

  pub account_there : is_receipt r.kind ≡ true → (name : List ℕ) × (account_in (message_at r.id ms) ≡ Some name)
  account_there e =
      let is = (sound.each r (among_here r done rest)).message in
      let own = receipt_account r.kind is.0.originator is.0 r e is.1.1.1 in
      (own.0, ap (λ (o : Option MessageRow). account_in o) is.1.0 ∙ own.1)

  -- one more row is read
  pub read_on : (name : List ℕ) (before after : OpenReportsOf) → ((other : List ℕ) → account_in (message_at r.id ms) ≡ Some other → name ≡ other) → Represents ms before done
      → (((s : ReportRow) → Among s done → s.place < r.place) → report_of r.id done ≡ None → (is_receipt r.kind ≡ true → account_in (message_at r.id ms) ≡ Some name) → Represents ms after (done ++ r ∷ []))
      → Represents ms after (done ++ r ∷ [])
  read_on name before after own represents adds =
      adds (λ s m. place_before s r done rest sound.keys m) none_yet
      (λ e. let there = account_there e in there.1 ∙ ap (λ (n : List ℕ). Some n) (sym (own there.0 there.1)))

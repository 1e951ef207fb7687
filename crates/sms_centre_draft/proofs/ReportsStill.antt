-- What is kept of reports stays where a message changes in all but who submitted it.
use Rattle.std.proofs.Common.{◌≡◌, ℕ, List, Option, Some, None, sym, ◌∙◌, ap, ⊎_elim}
use Rattle.std.specs.Prelude.{◌&&◌, if◌then◌else◌}
use Rattle.std.proofs.lemmas.Bool.{cases_eq}
use Rattle.sms_base.specs.Among.{Among}
use Rattle.sms_base.specs.declared.final_state.FinalState.{FinalState}
use Rattle.sms_rows.specs.table.Table.{put}
use Rattle.sms_rows.proofs.table.Tables.{row_at_put, row_at_put_other}
use Rattle.sms_centre_rows.specs.declared.messages.message.MessageRow.{MessageRow}
use Rattle.sms_centre_rows.specs.messages.Messages.{ended, message_at, message_key}
use Rattle.sms_centre_rows.specs.declared.reports.report.ReportRow.{ReportRow}
use Rattle.sms_centre_rows.specs.reports.Reports.{is_open_receipt, reports_of}
use Rattle.sms_centre_reports.specs.open_reports.Entries.{account_in, is_named, receipt_entry}
use Rattle.sms_centre_reports.specs.open_reports.OpenReportsDraft.{OpenReportsDraftOf, DraftRepresents}
use Rattle.sms_centre_rows.specs.waiting.Revisions.{Revised}
use Rattle.sms_centre_reports.proofs.open_reports.Keeping.{picked_alike}

pub told_still : (ms others : List MessageRow) (p : OpenReportsDraftOf) (t : Revised ReportRow) → DraftRepresents ms p t → ((r : ReportRow) → Among r (reports_of t) → account_in (message_at r.id others) ≡ account_in (message_at r.id ms)) → DraftRepresents others p t
told_still ms others p t tells same = record {
  current = record {
    keys = tells.current.keys;
    alone = tells.current.alone;
    by_message = tells.current.by_message;
    statuses = tells.current.statuses;
    receipts = λ name. tells.current.receipts name ∙ picked_alike (receipt_entry name ms) (receipt_entry name others) (reports_of t) (λ r m.
        ap (λ (o : Option (List ℕ)). if is_open_receipt r && is_named name o then Some (record { place = r.place; id = r.id; due = r.progress.due }) else None)
        (sym (same r m)));
    next = tells.current.next;
  };
  changes = tells.changes;
  noted = tells.noted;
  stay = tells.stay;
}

pub ended_told : (ms : List MessageRow) (m : MessageRow) (f : FinalState) (moment : ℕ) (p : OpenReportsDraftOf) (t : Revised ReportRow) → message_at m.id ms ≡ Some m → DraftRepresents ms p t → DraftRepresents (put message_key (ended f moment m) ms) p t
ended_told ms m f moment p t there tells = told_still ms (put message_key (ended f moment m) ms) p t tells (λ r among. ⊎_elim
    (λ (e : m.id ≡ r.id).
    let now : message_at r.id (put message_key (ended f moment m) ms) ≡ Some (ended f moment m) = ap (λ (k : ℕ). message_at k (put message_key (ended f moment m) ms)) (sym e) ∙ row_at_put message_key (ended f moment m) ms in
    let was : message_at r.id ms ≡ Some m = ap (λ (k : ℕ). message_at k ms) (sym e) ∙ there in
    ap (λ (o : Option MessageRow). account_in o) now ∙ sym (ap (λ (o : Option MessageRow). account_in o) was))
    (λ (e : m.id ≡ r.id → ⊥). ap (λ (o : Option MessageRow). account_in o) (row_at_put_other message_key r.id (ended f moment m) ms e))
    (cases_eq m.id r.id))

-- a message comes of which there is no report
pub entered_told : (ms : List MessageRow) (m : MessageRow) (p : OpenReportsDraftOf) (t : Revised ReportRow) → ((r : ReportRow) → Among r (reports_of t) → ¬ (m.id ≡ r.id)) → DraftRepresents ms p t → DraftRepresents (put message_key m ms) p t
entered_told ms m p t none tells = told_still ms (put message_key m ms) p t tells (λ r among.
    ap (λ (o : Option MessageRow). account_in o) (row_at_put_other message_key r.id m ms (none r among)))

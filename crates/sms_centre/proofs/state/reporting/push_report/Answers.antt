use Rattle.std.proofs.Common.{◌≡◌, ℕ, List, [], ◌++◌, append-nil, Option, Some, None, OnOk, refl, sym, ◌∙◌, ap, subst}
use Rattle.std.specs.Option.{option_map}
use Rattle.std.specs.Prelude.{slice_get}
use Rattle.sms_centre_rows.specs.declared.messages.message.MessageRow.{MessageRow}
use Rattle.sms_centre_rows.specs.declared.report_lines.ReceiptRow.{ReceiptRow}
use Rattle.sms_centre_rows.specs.declared.reports.report.ReportRow.{ReportRow}
use Rattle.sms_centre_rows.specs.messages.Messages.{message_at}
use Rattle.sms_centre_reports.specs.report_log.Reporting.{receipt_line}
use Rattle.sms_centre.specs.state.MessageLines.{receipt_at}
use Rattle.sms_centre.proofs.state.reporting.push_report.Goals as goal

-- the line of the report of that message
receipt_some : (ms : List MessageRow) (o : Option ReportRow) (id : ℕ) → Some id ≡ option_map (λ (r : ReportRow). r.id) o → receipt_line (message_at id ms) ≡ receipt_at ms o
receipt_some ms None id e = absurd cc
receipt_some ms (Some r) id e = let same : id ≡ r.id = cc in ap (λ (n : ℕ). receipt_line (message_at n ms)) same

receipt_none : (ms : List MessageRow) (o : Option ReportRow) → None ≡ option_map (λ (r : ReportRow). r.id) o → [] ≡ receipt_at ms o
receipt_none ms None e = refl
receipt_none ms (Some r) e = absurd cc

pub returns-in-Some : goal.returns-in-Some
returns-in-Some c = λ ms ps rows h held.
    subst (λ (ls : List ReceiptRow). OnOk c.push_receipt.result (c.push_receipt.new.lines ≡ c.args.lines.now ++ ls))
    (receipt_some ms (slice_get rows c.args.place) c.in-Some.id (sym c.in-Some.is ∙ c.message_at.ensures rows held))
    (c.push_receipt.ensures ms ps h)

pub returns-in-None : goal.returns-in-None
returns-in-None c = λ ms ps rows h held.
    sym (append-nil c.args.lines.now) ∙ ap (λ (k : List ReceiptRow). c.args.lines.now ++ k) (receipt_none ms (slice_get rows c.args.place) (sym c.in-None.is ∙ c.message_at.ensures rows held))

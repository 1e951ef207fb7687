-- What a centre tells of its messages is what the report of a course has of them.
use Rattle.std.proofs.Common.{◌≡◌, ℕ, List, [], ◌∷◌, ◌++◌, Option, Some, None, refl, ap, ◌∙◌}
use Rattle.sms_base.specs.declared.final_state.FinalState.{FinalState}
use Rattle.sms_centre_rows.specs.messages.Messages.{message_at}
use Rattle.sms_centre_rows.specs.declared.messages.message.MessageRow.{MessageRow}
use Rattle.sms_play.specs.CentreSide.{state_of as state_told}
use Rattle.sms_play.specs.PlayState.{PlayState}
use Rattle.sms_play.specs.Playing.{accepted_lines, all_outbox_lines, joined_lines, message_lines as lines_told, receipt_line as receipt_told, receipt_lines as receipts_told, report_of}
use Rattle.sms_centre_reports.specs.report_log.Reporting.{message_lines, receipt_line, receipt_lines, state_of}
use Rattle.sms_script.specs.declared.report.answers.Answer.{Answer}
use Rattle.sms_centre_rows.specs.declared.report_lines.MessageState.{MessageState}
use Rattle.sms_script.specs.declared.report.Report.{Report}
use Rattle.sms_script.specs.declared.report.rows.AcceptedRow.{AcceptedRow}
use Rattle.sms_script.specs.declared.report.rows.FrameRow.{FrameRow}
use Rattle.sms_script.specs.declared.report.rows.GivenRow.{GivenRow}
use Rattle.sms_script.specs.declared.report.rows.JoinedRow.{JoinedRow}
use Rattle.sms_centre_rows.specs.declared.report_lines.ReportedMessage.{ReportedMessage}
use Rattle.sms_script.specs.declared.report.rows.OutboxRow.{OutboxRow}
use Rattle.sms_centre_rows.specs.declared.report_lines.ReceiptRow.{ReceiptRow}
use Rattle.sms_centre_rows.specs.declared.reports.report.ReportRow.{ReportRow}

same_state : (o : Option FinalState) → state_of o ≡ state_told o
same_state None = refl
same_state (Some state) = refl

abbrev line_with : MessageRow → MessageState → ReportedMessage
line_with m state = record { id = m.id; from = m.source.digits; to = m.handset; state = state }

pub same_lines : (ms : List MessageRow) → message_lines ms ≡ lines_told ms
same_lines [] = refl
same_lines (m ∷ ms) =
    ap (λ (s : MessageState). line_with m s ∷ message_lines ms) (same_state m.state)
    ∙ ap (λ (ls : List ReportedMessage). line_with m (state_told m.state) ∷ ls) (same_lines ms)

same_end : (id : ℕ) (o : Option FinalState) (m : MessageRow) → receipt_line (Some (record m { id = id; state = o })) ≡ receipt_told (Some (record m { id = id; state = o }))
same_end id None m = refl
same_end id (Some state) m = refl

same_receipt : (o : Option MessageRow) → receipt_line o ≡ receipt_told o
same_receipt None = refl
same_receipt (Some m) = same_end m.id m.state m

pub same_receipts : (ms : List MessageRow) (rs : List ReportRow) → receipt_lines ms rs ≡ receipts_told ms rs
same_receipts ms [] = refl
same_receipts ms (r ∷ rs) =
    ap (λ (x : List ReceiptRow). x ++ receipt_lines ms rs) (same_receipt (message_at r.id ms))
    ∙ ap (λ (x : List ReceiptRow). receipt_told (message_at r.id ms) ++ x) (same_receipts ms rs)

-- What is told of a course is its report.
pub report_is : (c : PlayState) (answers : List Answer) (table : List ReportedMessage) (accepted : List AcceptedRow) (joined : List JoinedRow) (receipts : List ReceiptRow) (outboxes : List OutboxRow) (given : List GivenRow) (bag : List FrameRow)
    → answers ≡ c.answers → table ≡ lines_told c.centre.rows.messages → accepted ≡ accepted_lines c.parties → joined ≡ joined_lines c.parties → receipts ≡ receipts_told c.centre.rows.messages c.centre.rows.reports
    → outboxes ≡ all_outbox_lines c.parties → given ≡ c.given → bag ≡ c.bag
    → ◌≡◌ {A = Report} (record { answers = answers; table = table; accepted = accepted; joined = joined; receipts = receipts; outboxes = outboxes; given = given; bag = bag }) (report_of c)
report_is c answers table accepted joined receipts outboxes given bag a t k j r o g b = rw (a, t, k, j, r, o, g, b) refl

-- Lines that are listed one after the other.
use Rattle.std.proofs.Common.{◌≡◌, ℕ, zero, suc, ◌+◌, List, [], ◌∷◌, ◌++◌, take, add-one, append-nil, refl, sym, ◌∙◌, ap}
use Rattle.std.specs.Prelude.{slice_get}
use Rattle.std.proofs.lemmas.List.{append_assoc}
use Rattle.sms_centre_rows.specs.declared.messages.message.MessageRow.{MessageRow}
use Rattle.sms_centre_rows.specs.messages.Messages.{message_at}
use Rattle.sms_centre_reports.specs.report_log.Reporting.{message_line, message_lines, receipt_line, receipt_lines}
use Rattle.sms_centre_rows.specs.declared.report_lines.ReportedMessage.{ReportedMessage}
use Rattle.sms_centre_rows.specs.declared.report_lines.ReceiptRow.{ReceiptRow}
use Rattle.sms_centre_rows.specs.declared.reports.report.ReportRow.{ReportRow}
use Rattle.sms_centre.specs.state.MessageLines.{line_at, receipt_at}

line_next : (i : ℕ) (ms : List MessageRow) → message_lines (take (suc i) ms) ≡ message_lines (take i ms) ++ line_at (slice_get ms i)
line_next zero [] = refl
line_next zero (m ∷ ms) = refl
line_next (suc i) [] = refl
line_next (suc i) (m ∷ ms) = ap (λ (ls : List ReportedMessage). message_line m ∷ ls) (line_next i ms)

-- the line of the next message
pub message_next : (i : ℕ) (ms : List MessageRow) → message_lines (take (i + 1) ms) ≡ message_lines (take i ms) ++ line_at (slice_get ms i)
message_next i ms = ap (λ (n : ℕ). message_lines (take n ms)) (add-one i) ∙ line_next i ms

module _ (ms : List MessageRow) where
  listed_next : (i : ℕ) (rows : List ReportRow) → receipt_lines ms (take (suc i) rows) ≡ receipt_lines ms (take i rows) ++ receipt_at ms (slice_get rows i)
  listed_next zero [] = refl
  listed_next zero (r ∷ rs) = append-nil (receipt_line (message_at r.id ms))
  listed_next (suc i) [] = refl
  listed_next (suc i) (r ∷ rs) =
      ap (λ (ls : List ReceiptRow). receipt_line (message_at r.id ms) ++ ls) (listed_next i rs)
      ∙ sym (append_assoc (receipt_line (message_at r.id ms)) (receipt_lines ms (take i rs)) (receipt_at ms (slice_get rs i)))

  -- the line of the next report
  pub receipt_next : (i : ℕ) (rows : List ReportRow) → receipt_lines ms (take (i + 1) rows) ≡ receipt_lines ms (take i rows) ++ receipt_at ms (slice_get rows i)
  receipt_next i rows = ap (λ (n : ℕ). receipt_lines ms (take n rows)) (add-one i) ∙ listed_next i rows

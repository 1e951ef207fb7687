-- A receipt that says DELIVRD of a message that was never accepted.
use Rattle.std.proofs.Common.{◌≡◌, inl, refl, subst, ⊎_elim}
use Rattle.sms_base.specs.declared.final_state.FinalState.TheVariants.{Expired}
use Rattle.sms_centre_rows.specs.declared.report_lines.MessageState.TheVariants.{Final}
use Rattle.sms_centre_rows.specs.declared.report_lines.ReportedMessage.{ReportedMessage}
use Rattle.sms_world.proofs.wrong_reports.Read.{first_part, is_read, part}
use Rattle.sms_world.specs.headline.PlainReport.{WasDelivered}
use Rattle.sms_world.specs.wrong_reports.Literals.{events, line, receipt, receipt_of_expired, reports, setup}
use Rattle.sms_world.specs.wrong_reports.Tried.{ToldLaw}

pub refused : ToldLaw
refused d =
    let r = d.receipts receipt (inl refl) refl in
    let is : r.0 ≡ line (Final Expired) = ⊎_elim (λ (e : r.0 ≡ line (Final Expired)). e) (λ (none : ⊥). absurd none) r.1.0 in
    let w : WasDelivered setup events (reports receipt_of_expired) receipt_of_expired (line (Final Expired)) =
    subst (λ (m : ReportedMessage). WasDelivered setup events (reports receipt_of_expired) receipt_of_expired m) is r.1.2 in
    (w.each 1 part (first_part w.of_event.origin (is_read (reports receipt_of_expired) (line (Final Expired)) w.of_event))).once

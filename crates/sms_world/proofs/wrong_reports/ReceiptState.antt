use Rattle.std.proofs.Common.{refl, sym, ◌∙◌, inl}
use Rattle.sms_centre_rows.specs.declared.report_lines.MessageState.TheVariants.{Final}
use Rattle.sms_base.specs.declared.final_state.FinalState.TheVariants.{Expired}
use Rattle.sms_world.proofs.wrong_reports.Apart.{delivered_is_not_expired, only_line}
use Rattle.sms_world.specs.wrong_reports.Literals.{receipt}
use Rattle.sms_world.specs.wrong_reports.Tried.{ReceiptLaw}

pub refused : ReceiptLaw
refused r = let s = r.state receipt (inl refl) in
    delivered_is_not_expired (sym s.1.2 ∙ only_line s.0 (Final Expired) s.1.0)

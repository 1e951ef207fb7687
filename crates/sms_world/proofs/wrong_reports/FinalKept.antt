use Rattle.std.proofs.Common.{refl, inl}
use Rattle.sms_centre_rows.specs.declared.report_lines.MessageState.TheVariants.{Final}
use Rattle.sms_base.specs.declared.final_state.FinalState.TheVariants.{Delivered, Expired}
use Rattle.sms_world.proofs.wrong_reports.Apart.{delivered_is_not_expired, only_line}
use Rattle.sms_world.specs.wrong_reports.Literals.{line}
use Rattle.sms_world.specs.wrong_reports.Tried.{FinalLaw}

pub refused : FinalLaw
refused s = delivered_is_not_expired (only_line (line (Final Delivered)) (Final Expired) (s.final (line (Final Delivered)) Delivered (inl refl) refl))

use Rattle.std.proofs.Common.{refl, inl}
use Rattle.sms_centre_rows.specs.declared.report_lines.MessageState.TheVariants.{Final}
use Rattle.sms_base.specs.declared.final_state.FinalState.TheVariants.{Delivered}
use Rattle.sms_world.proofs.wrong_reports.Read.{part, first_part, is_read}
use Rattle.sms_world.specs.wrong_reports.Literals.{line, never_accepted, reports}
use Rattle.sms_world.specs.wrong_reports.Tried.{NeverLaw}

pub refused : NeverLaw
refused d =
    let w = d.lines (line (Final Delivered)) (inl refl) refl in
    (w.each 1 part (first_part w.of_event.origin (is_read (reports never_accepted) (line (Final Delivered)) w.of_event))).once

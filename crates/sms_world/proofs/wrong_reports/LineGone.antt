-- A line that is gone in a longer report, and a receipt that is.
use Rattle.std.proofs.Common.{inl, refl}
use Rattle.sms_centre_rows.specs.declared.report_lines.MessageState.TheVariants.{Enroute}
use Rattle.sms_world.specs.wrong_reports.Literals.{line, receipt}
use Rattle.sms_world.specs.wrong_reports.Tried.{ForgottenLaw, GoneLaw}

pub gone : GoneLaw
gone s = let x = s.lines (line Enroute) (inl refl) in x.1.0

pub forgotten : ForgottenLaw
forgotten s = s.receipts receipt (inl refl)

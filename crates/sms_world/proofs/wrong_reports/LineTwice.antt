use Rattle.std.proofs.Common.{arith, refl, inl, ◌<◌}
use Rattle.sms_centre_rows.specs.declared.report_lines.MessageState.TheVariants.{Enroute}
use Rattle.sms_world.specs.wrong_reports.Literals.{line}
use Rattle.sms_world.specs.wrong_reports.Tried.{LineLaw}

pub refused : LineLaw
refused a = no (a.0 (line Enroute) (inl refl))
  where
    no : 1 < 1 → ⊥
    no q = omega arith

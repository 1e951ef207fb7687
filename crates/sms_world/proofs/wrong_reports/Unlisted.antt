use Rattle.std.proofs.Common.{[], refl, inl, Some}
use Rattle.sms_base.specs.declared.carried.Kind.TheVariants.{Data}
use Rattle.sms_base.specs.declared.holder.Holder.TheVariants.{Report as ReportHolder}
use Rattle.sms_script.specs.declared.report.rows.Direction.TheVariants.{Down}
use Rattle.sms_world.specs.wrong_reports.Literals.{handset}
use Rattle.sms_world.specs.wrong_reports.Tried.{StatusLaw}

-- no receipt is listed
pub refused : StatusLaw
refused r =
    (r.frames (record { number = 1; direction = Down; handset = handset; carried = Some (record { kind = Data; reference = 0; tag = ReportHolder 1 }); octets = [] })
    (record { kind = Data; reference = 0; tag = ReportHolder 1 }) 1 (inl refl) refl refl refl refl).1.0

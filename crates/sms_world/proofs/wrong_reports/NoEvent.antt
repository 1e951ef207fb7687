use Rattle.std.proofs.Common.{refl, inl}
use Rattle.sms_centre_rows.specs.declared.report_lines.MessageState.TheVariants.{Enroute}
use Rattle.sms_world.specs.wrong_reports.Literals.{line}
use Rattle.sms_world.specs.wrong_reports.Tried.{OriginLaw}

-- it is there before each event
pub refused : OriginLaw
refused m = let o = m.of_events (line Enroute) (inl refl) in o.appears.new (line Enroute, (inl refl, refl))

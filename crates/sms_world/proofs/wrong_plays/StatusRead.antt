-- What the octets of the STATUS-REPORT read as.
use Rattle.std.proofs.Common.{◌≡◌, refl, Ok}
use Rattle.sms_base.specs.declared.carried.Carried.{Carried}
use Rattle.sms_base.specs.declared.carried.Kind.TheVariants.{Data}
use Rattle.sms_base.specs.declared.holder.Holder.TheVariants.{Report as ReportHolder}
use Rattle.sms_tpdu.specs.TpduReading.{down_at}
use Rattle.sms_tpdu.specs.declared.carrier.Carrier.TheVariants.{InData}
use Rattle.sms_tpdu.specs.declared.down.Down.TheVariants.{StatusReport}
use Rattle.sms_tpdu.specs.declared.status_report.StatusReport.{StatusReport as StatusReportOf}
use Rattle.sms_world.proofs.Everything.{everything}
use Rattle.sms_world.specs.headline.SeenFrames.{octets_down}
use Rattle.sms_world.specs.wrong_plays.Plays.{frame_to}
use Rattle.sms_world.specs.wrong_reports.Literals.{writer}
use Rattle.sms_world.specs.wrong_reports.StatusReports.{told}

abbrev pub carried : Carried
carried = record { kind = Data; reference = 0; tag = ReportHolder 2 }

abbrev pub says : StatusReportOf
says = told

pub reads : down_at InData (octets_down Data (frame_to writer).octets) ≡ Ok (StatusReport says)
unfolding everything
reads = refl

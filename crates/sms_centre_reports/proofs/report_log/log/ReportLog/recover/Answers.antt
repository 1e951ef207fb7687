use Rattle.std.proofs.Common.{List, sym, subst}
use Rattle.sms_rows.specs.table.Table.{Rises}
use Rattle.sms_centre_reports.specs.declared.report_log.log.LoggedReport.{LoggedReport}
use Rattle.sms_centre_reports.specs.report_log.ReportLog.{made_key}
use Rattle.sms_centre_reports.proofs.report_log.Registering.{rises_made}
use Rattle.sms_centre_reports.proofs.report_log.log.ReportLog.recover.Goals as goal

pub from_vec-requires : goal.from_vec-requires
from_vec-requires c = subst (λ (reports : List LoggedReport). Rises made_key reports) (sym c.in_ok-reports.ensures) (rises_made c.args.rows.now c.requires)

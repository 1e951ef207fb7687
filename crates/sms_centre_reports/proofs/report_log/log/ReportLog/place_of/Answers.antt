use Rattle.std.proofs.Common.{◌∙◌, ap}
use Rattle.sms_centre_reports.specs.report_log.ReportLog.{LogInMemory}
use Rattle.sms_centre_reports.proofs.report_log.Indexing.{place_told}
use Rattle.sms_centre_reports.proofs.report_log.log.ReportLog.place_of.Goals as goal

pub returns-then-self : goal.returns-then-self
returns-then-self c = λ rows h.
    c.of.ensures
    ∙ place_told c.args.id rows c.self.inside.reports.rows c.self.inside.places (ap (λ (l : LogInMemory). l.reports.rows) c.self.view_is ∙ h) (c.self.invariant.1 c.if-self.true)

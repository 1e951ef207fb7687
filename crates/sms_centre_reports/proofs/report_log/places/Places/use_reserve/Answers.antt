use Rattle.std.proofs.Common.{◌∙◌, ap}
use Rattle.sms_centre_reports.specs.report_log.Places.{PlacesOf}
use Rattle.sms_centre_reports.proofs.report_log.Indexing.{moved_all}
use Rattle.sms_centre_reports.proofs.report_log.places.Places.use_reserve.Goals as goal

pub returns-in-Ok-clause-same : goal.returns-in-Ok-clause-same
returns-in-Ok-clause-same c =
    moved_all c.reserve.inside.map.entries c.self.inside.map.entries c.append.new.self.entries c.reserve.invariant c.len-len.ensures.unique c.in-Ok.ensures.entries
    ∙ ap (λ (p : PlacesOf). p.entries) c.self.view_is

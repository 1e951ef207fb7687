use Rattle.std.proofs.Common.{◌≡◌, subst}
use Rattle.sms_centre_reports.specs.open_reports.Entries.{status_key, status_until}
use Rattle.sms_rows.specs.index.First.{first_such, is_past_from}
use Rattle.sms_centre_draft.specs.CentreDraft.{CentreDraftOf}
use Rattle.sms_centre_draft.proofs.centre_draft.CentreDraft.first_old.Goals as goal

pub returns : goal.returns
returns c =
    subst (λ (x : CentreDraftOf). c.first_old.result ≡ first_such (is_past_from status_key status_until c.args.first x.moment) x.reports.current.statuses) c.self.view_is c.first_old.ensures

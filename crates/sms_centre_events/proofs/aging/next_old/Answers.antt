use Rattle.sms_centre_events.proofs.Dropped.{behind_some}
use Rattle.sms_centre_events.proofs.aging.next_old.Goals as goal

pub returns-clause-behind : goal.returns-clause-behind
returns-clause-behind c = behind_some c.args.first c.args.draft.now.moment c.args.draft.now.reports.current.statuses c.first_old.result c.first_old.ensures

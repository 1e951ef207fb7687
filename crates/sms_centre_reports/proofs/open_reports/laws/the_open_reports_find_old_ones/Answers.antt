use Rattle.sms_centre_reports.proofs.open_reports.Dropping.{none_dropped, one_dropped}
use Rattle.sms_centre_reports.proofs.open_reports.laws.the_open_reports_find_old_ones.Goals as goal

pub returns : goal.returns
returns c = record {
  next = λ first moment ms current rows t e represents q. one_dropped first moment ms current rows represents t e q;
  none = λ first moment ms current rows t represents q. none_dropped first moment ms current rows represents t q;
}

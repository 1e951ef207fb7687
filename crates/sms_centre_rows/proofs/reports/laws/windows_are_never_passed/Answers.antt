use Rattle.sms_centre_rows.proofs.reports.Windows.{all_windowed}
use Rattle.sms_centre_rows.proofs.reports.laws.windows_are_never_passed.Goals as goal

pub returns : goal.returns
returns c = all_windowed

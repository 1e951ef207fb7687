use Rattle.std.proofs.Common.{refl}
use Rattle.sms_centre_reports.proofs.open_reports.Serving.{sends_end, sends_on}
use Rattle.sms_centre_reports.proofs.open_reports.laws.the_open_reports_find_due_receipts.Goals as goal

pub returns : goal.returns
returns c = record {
  next = λ first moment ms current rows bindings n represents rises e. sends_on first moment ms current rows represents bindings.sessions bindings n refl rises e;
  none = λ first moment ms current rows bindings represents e. sends_end first moment ms current rows represents bindings.sessions bindings refl e;
}

use Rattle.sms_centre_spec.proofs.OrdersDone.{delete_does, delete_fails, none_ordered, retry_does}
use Rattle.sms_centre_spec.proofs.laws.an_order_is_done_or_refused.Goals as goal

pub returns : goal.returns
returns c = record { retried = retry_does; deleted = delete_does; too_late = delete_fails; of_none = none_ordered }

use Rattle.sms_world.proofs.wrong_plays.NotHappened.{receipt_early, receipt_not_listed, receipt_to_other, receipt_to_transmitter, receipt_unbound, receipt_undated, right_receipt}
use Rattle.sms_world.proofs.wrong_plays.wrong_deliver_sms_are_refused.Goals as goal

pub returns : goal.returns
returns c = record { right = right_receipt; ended = receipt_early; done = receipt_undated; listed = receipt_not_listed; bound = receipt_unbound; receives = receipt_to_transmitter; account = receipt_to_other }

use Rattle.sms_world.proofs.wrong_plays.NotSent.{of_none, elsewhere as elsewhere_is}
use Rattle.sms_world.proofs.wrong_plays.entries_sent_to_nobody_are_refused.Goals as goal

pub returns : goal.returns
returns c = record { none = of_none; elsewhere = elsewhere_is }

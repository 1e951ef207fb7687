use Rattle.sms_centre_spec.proofs.conditions.SplitsTested.{splits_from, splits_to}
use Rattle.sms_centre_spec.proofs.conditions.laws.splits_are_tested.Goals as goal

pub returns : goal.returns
returns c messages rises = (splits_from messages, splits_to messages rises)

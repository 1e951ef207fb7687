use Rattle.sms_centre_group.proofs.Joining.{after_joined}
use Rattle.sms_centre_group.proofs.laws.joined_changes_are_those_of_both.Goals as goal

pub returns : goal.returns
returns c = after_joined

use Rattle.sms_world.proofs.references_are_shared.LeftToOthers.{submit_leaves}
use Rattle.sms_world.proofs.references_are_shared.an_account_leaves_half_to_others.Goals as goal

pub returns : goal.returns
returns c = submit_leaves

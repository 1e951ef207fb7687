use Rattle.sms_centre_draft.proofs.walks.Acting.{walk_push}
use Rattle.sms_centre_draft.proofs.walks.laws.a_walk_takes_one_more_step.Goals as goal

pub returns : goal.returns
returns g c = walk_push

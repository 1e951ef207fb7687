use Rattle.sms_world.proofs.headline.Claimed.{final_is, lines_are}
use Rattle.sms_world.proofs.headline.HeadlineHolds.{lines_stay_is}
use Rattle.sms_world.proofs.headline.one_final_state.Goals as goal

pub returns : goal.returns
returns c = record { stays = final_is; line = lines_are; stay = lines_stay_is }

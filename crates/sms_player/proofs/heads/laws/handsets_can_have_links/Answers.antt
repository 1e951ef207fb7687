use Rattle.sms_player.proofs.heads.Beginnings.{handsets_are}
use Rattle.sms_player.proofs.heads.laws.handsets_can_have_links.Goals as goal

pub returns : goal.returns
returns c = handsets_are

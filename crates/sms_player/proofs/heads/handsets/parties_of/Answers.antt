use Rattle.std.proofs.Common.{◌≡◌, List, sym, subst, true}
use Rattle.sms_play.specs.Setups.{are_handsets}
use Rattle.sms_player.proofs.heads.Beginnings.{playable}
use Rattle.sms_script.specs.declared.setup.HandsetSetup.{HandsetSetup}
use Rattle.sms_player.proofs.heads.handsets.parties_of.Goals as goal

pub parties_among-requires-clause-handsets : goal.parties_among-requires-clause-handsets
parties_among-requires-clause-handsets c = subst (λ (hs : List HandsetSetup). are_handsets hs ≡ true) (sym c.as_slice.ensures) (playable c.args.setup.now c.requires.setup).handsets

pub parties_among-requires-clause-centre : goal.parties_among-requires-clause-centre
parties_among-requires-clause-centre c = (playable c.args.setup.now c.requires.setup).centre

use Rattle.sms_player.proofs.heads.handsets.with_parties.Goals as goal

pub returns : goal.returns
returns g c = record { given = (c.in_ok-parties.parties, c.lend.ensures.0, c.in_ok-parties.ensures.parties, c.lend.ensures.1) }

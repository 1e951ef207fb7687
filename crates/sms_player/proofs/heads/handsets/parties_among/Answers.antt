use Rattle.std.proofs.Common.{arith}
use Rattle.sms_player.proofs.heads.Beginnings.{handset_good}
use Rattle.sms_player.proofs.heads.handsets.parties_among.Goals as goal

pub party_of-requires-clause-handset : goal.party_of-requires-clause-handset
party_of-requires-clause-handset c = (handset_good c.args.handsets.now c.loop-handset.handset-index c.handset-item.result (omega (arith, c.loop-handset-test.true)) c.handset-item.is c.loop-handset.invariant.good).0

use Rattle.std.proofs.Common.{arith}
use Rattle.sms_player.proofs.heads.Beginnings.{handset_is}
use Rattle.sms_player.proofs.heads.handsets.slots_of.Goals as goal

pub overflow_cast-result : goal.overflow_cast-result
overflow_cast-result c = omega (arith, (handset_is c.args.handset.now c.requires).few)

pub returns-clause-some : goal.returns-clause-some
returns-clause-some c = omega (arith, (handset_is c.args.handset.now c.requires).some)

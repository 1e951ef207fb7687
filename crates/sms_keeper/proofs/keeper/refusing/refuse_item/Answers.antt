use Rattle.std.proofs.Common.{refl}
use Rattle.sms_keeper.specs.declared.machine.Fate.TheVariants.{Refused}
use Rattle.sms_keeper.proofs.keeper.refusing.refuse_item.Goals as goal

pub returns-clause-item : goal.returns-clause-item
returns-clause-item g c = let k = c.give_item.ensures in
    (record { stimulus = c.args.stimulus; fate = Refused; outs = c.refuse-outs.result }, refl, refl, k.given, k.told, c.refuse-outs.ensures.gives)

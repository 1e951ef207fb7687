use Rattle.sms_store.proofs.centre.bodies.PartAtLookup.read.Goals as goal

pub returns-clause-back : goal.returns-clause-back
returns-clause-back g c clean ours has = c.find.ensures.back clean ours has.0 has.1

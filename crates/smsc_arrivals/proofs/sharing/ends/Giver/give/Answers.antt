use Rattle.std.proofs.Common.{ap}
use Rattle.smsc_arrivals.proofs.SharingKeeps.{gives}
use Rattle.smsc_arrivals.proofs.sharing.ends.Giver.give.Goals as goal

pub send_as-requires-clause-rule : goal.send_as-requires-clause-rule
send_as-requires-clause-rule g c = (gives _ _ _ _ (ap (λ v. v.gives) c.args.self.now.gives), λ items views h at. tt)

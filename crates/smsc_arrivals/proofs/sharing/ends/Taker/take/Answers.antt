use Rattle.std.proofs.Common.{ap}
use Rattle.smsc_arrivals.proofs.SharingKeeps.{takes}
use Rattle.smsc_arrivals.proofs.sharing.ends.Taker.take.Goals as goal

pub recv_as-requires-clause-rule : goal.recv_as-requires-clause-rule
recv_as-requires-clause-rule g c = (takes _ _ (ap (λ v. v.takes) c.args.self.now.takes), λ items views h at. tt)

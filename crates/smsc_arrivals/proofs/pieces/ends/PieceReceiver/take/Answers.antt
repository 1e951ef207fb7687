use Rattle.std.proofs.Common.{ap}
use Rattle.crossbeam_channel.specs.Claims.{view}
use Rattle.smsc_arrivals.proofs.Crossing.{take_next, takes}
use Rattle.smsc_arrivals.proofs.pieces.ends.PieceReceiver.take.Goals as goal

pub try_recv_as-requires-clause-rule : goal.try_recv_as-requires-clause-rule
try_recv_as-requires-clause-rule g c = (takes _ _ (ap (λ v. v.takes) c.args.self.now.takes), λ items views h at. tt)

pub returns : goal.returns
returns g c = take_next c.try_recv_as.result (view c.args.self.now.pass) (view c.try_recv_as.new.pass) _ c.try_recv_as.ensures.rule

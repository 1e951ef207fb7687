use Rattle.std.proofs.Common.{ap}
use Rattle.smsc_arrivals.proofs.Crossing.{gives}
use Rattle.smsc_arrivals.proofs.pieces.ends.PieceSender.give.Goals as goal

pub send_as-requires-clause-rule : goal.send_as-requires-clause-rule
send_as-requires-clause-rule g c = (gives _ _ _ _ (ap (λ v. v.gives) c.args.self.now.gives) c.requires.given c.requires.all, λ items views h at. tt)

use Rattle.sms_play.proofs.judging.Holding.{begun}
use Rattle.sms_play.proofs.judging.watch.begin.Goals as goal

pub returns : goal.returns
returns c = λ k.
    begun c.args.key.now k c.args.member c.in_ok-round.round c.args.rounds.now.entries c.insert.new.self.entries
    (c.in_ok-insert.ensures.updates.0 k) c.in_ok-round.ensures

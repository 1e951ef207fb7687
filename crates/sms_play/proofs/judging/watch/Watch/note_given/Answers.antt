use Rattle.sms_play.proofs.judging.Holding.{holders_on}
use Rattle.sms_play.proofs.judging.watch.Watch.note_given.Goals as goal

pub returns : goal.returns
returns c = λ given down accepted w. record {
  holders = holders_on given c.args.row.now c.is_upwards.result c.args.self.now.holders.entries c.insert.new.self.entries c.is_upwards.ensures w.holders c.in_ok-insert.ensures.updates.0;
  rounds = w.rounds;
  pairs = w.pairs;
}

use Rattle.sms_play.specs.judging.Watching.{pair_accepted, pair_in}
use Rattle.sms_play.proofs.judging.Holding.{accepted_on, pair_of_row}
use Rattle.sms_play.proofs.judging.watch.Watch.note_accepted.Goals as goal

pub returns : goal.returns
returns c = λ given down accepted w. record {
  holders = w.holders;
  rounds = w.rounds;
  pairs = accepted_on accepted (pair_accepted c.args.row.now) c.in_ok-pair.pair c.args.self.now.accepted.entries c.insert.new.self.entries
      (pair_of_row c.args.row.now c.as_slice.result.now (pair_in c.in_ok-pair.pair) c.as_slice.ensures c.in_ok-pair.ensures) w.pairs c.in_ok-insert.ensures.updates.0;
}

use Rattle.std.proofs.Common.{◌≡◌, true}
use Rattle.sms_play.specs.judging.Watching.{all_arrived_in}
use Rattle.sms_play.proofs.judging.watch.Watch.all_arrived.Given as goal

abbrev pub invariant-loop-number : goal.invariant-loop-number
invariant-loop-number l = all_arrived_in l.number l.round l.self.accepted.entries ≡ true

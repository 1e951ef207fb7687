use Rattle.std.proofs.Common.{◌≡◌, drop}
use Rattle.sms_play.specs.judging.Watching.{arrived_in}
use Rattle.sms_play.proofs.judging.watch.Watch.has_arrived.Given as goal

abbrev pub invariant-loop-member : goal.invariant-loop-member
invariant-loop-member l = arrived_in l.number (drop l.member-index l.round) l.self.accepted.entries ≡ arrived_in l.number l.round l.self.accepted.entries

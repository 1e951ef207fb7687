use Rattle.std.proofs.Common.{Option, List, ap, is_some, sym}
use Rattle.sms_play.proofs.judging.Holding.{gone_on}
use Rattle.sms_play.specs.declared.judging.watch.Member.{Member}
use Rattle.sms_play.proofs.judging.watch.continue_round.Goals as goal

pub returns-in_ok-push-in-Some : goal.returns-in_ok-push-in-Some
returns-in_ok-push-in-Some c = λ k.
    gone_on c.args.key.now k c.args.member c.in-Some.round.now c.push.new.self c.args.rounds.now.entries (c.get_mut.follows.lender c.push.new.self).entries
    (((c.get_mut.follows.holds c.push.new.self).3 (ap (λ (o : Option (List Member)). is_some o) (sym c.in-Some.ensures.value))).0 k)
    c.in-Some.ensures.value c.in_ok-push-in-Some.ensures.ok

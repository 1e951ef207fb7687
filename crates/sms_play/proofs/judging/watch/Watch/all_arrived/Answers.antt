use Rattle.std.proofs.Common.{◌≡◌, arith, false, sym, ◌∙◌}
use Rattle.sms_play.proofs.judging.Members.{one_fails, next_number}
use Rattle.sms_play.proofs.judging.watch.Watch.all_arrived.Goals as goal

pub returns-then-not-has_arrived : goal.returns-then-not-has_arrived
returns-then-not-has_arrived c =
    let fails : c.has_arrived.result ≡ false = c.if-not-has_arrived.true in
    sym (one_fails c.args.total c.loop-number.number c.args.round.now c.args.self.now.accepted.entries (omega (arith, c.loop-number-test.true))
    (next_number c.loop-number.number c.args.round.now c.args.self.now.accepted.entries ∙ sym c.has_arrived.ensures ∙ fails))

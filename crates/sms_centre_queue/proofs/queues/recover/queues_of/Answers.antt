use Rattle.std.proofs.Common.{◌≡◌, ◌∙◌, [], drop, sym, ap, arith}
use Rattle.std.proofs.Math.ListN.{drop_of_length-le}
use Rattle.sms_centre_queue.specs.queues.Queues.{under}
use Rattle.sms_centre_queue.specs.queues.Recovering.{restored_all}
use Rattle.sms_centre_queue.proofs.queues.recover.queues_of.Goals as goal

pub returns : goal.returns
returns c key =
    let none : drop c.loop-handset.handset-index c.args.handsets.now ≡ [] = drop_of_length-le c.args.handsets.now (omega (arith, c.loop-handset-test.false)) in
    sym (ap (λ hs. restored_all key hs c.args.references.now.rows (under key c.loop-handset.queues.entries)) none) ∙ c.loop-handset.invariant key

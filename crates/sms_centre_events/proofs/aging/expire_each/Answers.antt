use Rattle.std.proofs.Common.{◌+◌, refl, drop, arith}
use Rattle.std.proofs.Math.ListN.{drop_of_length-le}
use Rattle.sms_base.proofs.Lists.{drop_item}
use Rattle.sms_centre_events.proofs.Numbered.{left_next, left_none}
use Rattle.sms_centre_events.proofs.aging.expire_each.Goals as goal

pub loop-id-init : goal.loop-id-init
loop-id-init c = λ d represents. record { store = d.store; represents = represents; goes = refl }

pub loop-id-preserved : goal.loop-id-preserved
loop-id-preserved c = λ d represents.
    let i = c.loop-id.id-index in
    left_next d c.args.ids.now (drop i c.args.ids.now) c.id-item.result (drop (i + 1) c.args.ids.now) c.loop-id.draft c.expire_at.new.draft
    (drop_item c.args.ids.now i c.id-item.result (omega (arith, c.loop-id-test.true)) c.id-item.is) (c.loop-id.invariant d represents) c.in_ok-expire_at.ensures

pub returns : goal.returns
returns c = λ d represents.
    left_none d c.args.ids.now (drop c.loop-id.id-index c.args.ids.now) c.loop-id.draft
    (drop_of_length-le c.args.ids.now (omega (arith, c.loop-id-test.false))) (c.loop-id.invariant d represents)

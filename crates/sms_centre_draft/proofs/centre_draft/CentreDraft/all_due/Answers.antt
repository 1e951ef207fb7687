use Rattle.std.proofs.Common.{◌+◌, refl, drop, arith}
use Rattle.std.proofs.Math.ListN.{drop_of_length-le}
use Rattle.sms_base.proofs.Lists.{drop_item}
use Rattle.sms_centre_draft.proofs.DueNow.{left_next, left_none}
use Rattle.sms_centre_draft.proofs.centre_draft.CentreDraft.all_due.Goals as goal

pub loop-queued-init : goal.loop-queued-init
loop-queued-init c = λ d represents each. record { store = d.store; represents = represents; each = each; goes = refl }

pub loop-queued-preserved : goal.loop-queued-preserved
loop-queued-preserved c = λ d represents each.
    let i = c.loop-queued.queued-index in
    left_next d c.args.all_queued.now (drop i c.args.all_queued.now) c.queued-item.result (drop (i + 1) c.args.all_queued.now) c.loop-queued.self c.queued_due.new.self
    (drop_item c.args.all_queued.now i c.queued-item.result (omega (arith, c.loop-queued-test.true)) c.queued-item.is) (c.loop-queued.invariant d represents each) c.in_ok-queued_due.ensures

pub returns : goal.returns
returns c = λ d represents each.
    left_none d c.args.all_queued.now (drop c.loop-queued.queued-index c.args.all_queued.now) c.loop-queued.self
    (drop_of_length-le c.args.all_queued.now (omega (arith, c.loop-queued-test.false))) (c.loop-queued.invariant d represents each)

use Rattle.std.proofs.Common.{◌+◌, refl, drop, arith}
use Rattle.std.proofs.Math.ListN.{drop_of_length-le}
use Rattle.sms_base.proofs.Lists.{drop_item}
use Rattle.sms_centre_spec.specs.CentreEvent.{raise}
use Rattle.sms_centre_events.proofs.Walked.{left_next, left_none}
use Rattle.sms_centre_events.proofs.walks.raise_each.Goals as goal

pub loop-stop-init : goal.loop-stop-init
loop-stop-init c = λ d represents. record { draft = d; represents = represents; goes = refl }

pub loop-stop-preserved : goal.loop-stop-preserved
loop-stop-preserved c = λ d represents.
    let i = c.loop-stop.stop-index in
    left_next raise d c.args.stops.now (drop i c.args.stops.now) c.stop-item.result (drop (i + 1) c.args.stops.now) c.loop-stop.draft c.raise.new.self
    (drop_item c.args.stops.now i c.stop-item.result (omega (arith, c.loop-stop-test.true)) c.stop-item.is) (c.loop-stop.invariant d represents) c.in_ok-raise.ensures

pub returns : goal.returns
returns c = λ d represents.
    left_none raise d c.args.stops.now (drop c.loop-stop.stop-index c.args.stops.now) c.loop-stop.draft
    (drop_of_length-le c.args.stops.now (omega (arith, c.loop-stop-test.false))) (c.loop-stop.invariant d represents)

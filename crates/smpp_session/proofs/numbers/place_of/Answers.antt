use Rattle.std.proofs.Common.{◌<◌, length, arith}
use Rattle.smpp_session.proofs.Places.{found_at, passed_one}
use Rattle.smpp_session.proofs.numbers.place_of.Goals as goal

pub returns-then-items-place-clause-some : goal.returns-then-items-place-clause-some
returns-then-items-place-clause-some c =
    let fits : c.loop-place.place < length c.args.items.now = omega arith in
    found_at c.args.number c.args.items.now c.loop-place.place fits c.if-items-place.true c.loop-place.invariant

pub loop-place-preserved : goal.loop-place-preserved
loop-place-preserved c =
    let fits : c.loop-place.place < length c.args.items.now = omega arith in
    passed_one c.args.number c.args.items.now c.loop-place.place fits c.if-items-place.false c.loop-place.invariant

use Rattle.std.proofs.Common.{arith}
use Rattle.sms_play.proofs.reporting.Listing.{lines_done, lines_next}
use Rattle.sms_play.proofs.reporting.accepted_lines.Goals as goal

pub loop-place-preserved : goal.loop-place-preserved
loop-place-preserved g c = λ play shown.
    let all = c.handsets-place-end.ensures play shown in
    lines_next c.loop-place.place play.parties c.loop-place.lines c.put_accepted.new.lines (omega (arith, c.loop-place-test.true, all)) (c.loop-place.invariant play shown)
    (c.in_ok-put_accepted.ensures play shown)

pub returns : goal.returns
returns g c = λ play shown.
    let all = c.handsets-place-end.ensures play shown in
    lines_done c.loop-place.place play.parties c.loop-place.lines (omega (arith, c.loop-place-test.false, all)) (c.loop-place.invariant play shown)

use Rattle.std.proofs.Common.{◌≡◌, ◌<◌, ◌≤◌, arith}
use Rattle.sms_handset_link.proofs.Courses.{attended_all, attended_long, attending_more, attending_none}
use Rattle.sms_handset_link.proofs.run.attend.Goals as goal

pub loop-turn-init : goal.loop-turn-init
loop-turn-init g c = attending_none _ _ _ _ _ _ c.new-buffer.ensures

pub loop-turn-preserved : goal.loop-turn-preserved
loop-turn-preserved g c =
    let met = c.in_ok-left.ensures in
    let some : 0 < c.loop-turn.left = omega (arith, c.if-left-eq0.false) in
    attending_more _ _ _ _ _ _ _ _ _ _ _ _ _ _ _ _
    (record { now = c.now-now.result; shown = c.now-now.ensures; octets = met.1; few = met.2.0; frames = met.0 })
    c.loop-turn.invariant some met.2.1 met.2.2 met.2.3 met.2.4

pub returns-then-left-eq0 : goal.returns-then-left-eq0
returns-then-left-eq0 g c =
    let none : c.loop-turn.left ≡ 0 = omega (arith, c.if-left-eq0.true) in
    (_, attended_all _ _ _ _ _ _ _ _ _ _ _ c.loop-turn.invariant none)

pub returns : goal.returns
returns g c = (_, attended_long _ _ _ _ _ _ _ _ _ _ _ c.loop-turn.invariant (omega arith))

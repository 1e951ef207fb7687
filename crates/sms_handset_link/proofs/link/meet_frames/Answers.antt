use Rattle.std.proofs.Common.{rules, ◌≡◌, ◌<◌, [], ◌∷◌, ◌++◌, Ok, Some, None, arith, length-append}
use Rattle.sms_link.specs.framing.Framing.{front_of}
use Rattle.sms_handset_link.specs.Run.{received}
use Rattle.sms_handset_link.proofs.Courses.{cut_join, cut_one, frames_join, meets_one}
use Rattle.sms_handset_link.proofs.link.meet_frames.Goals as goal

pub loop-left-preserved : goal.loop-left-preserved
loop-left-preserved g c =
    let before = c.loop-left.invariant in
    let sent = c.in_ok-frame_received-in-Some.ensures in
    let frame = c.in-Some.octets in
    let stands : front_of c.loop-left.buffer ≡ Ok (Some frame) = search rules in (
      before.0 ++ frame ∷ [],
      (
        cut_join _ _ _ before.0 (frame ∷ []) before.1.0 (cut_one _ frame _ (c.cut.ensures.frame frame stands)),
        frames_join before.0 (frame ∷ []) _ _ _ _ _ _ before.1.1 (meets_one (received frame) _ _ _ _ sent.0 sent.1.0 sent.1.1),
        omega (arith, length-append before.0 (frame ∷ []), before.1.2, c.loop-left-test.true),
      ),
    )

pub returns-in-None : goal.returns-in-None
returns-in-None g c =
    let before = c.loop-left.invariant in
    let none : front_of c.loop-left.buffer ≡ Ok None = search rules in
    (before.0, (before.1.0, before.1.1, before.1.2, λ some. none))

pub returns : goal.returns
returns g c =
    let before = c.loop-left.invariant in
    (before.0, (before.1.0, before.1.1, before.1.2, λ some. absurd (omega (arith, some, c.loop-left-test.false))))

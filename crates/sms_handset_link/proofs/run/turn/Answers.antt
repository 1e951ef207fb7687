use Rattle.std.proofs.Common.{[], ◌∷◌, inl, map, sym, ◌∙◌}
use Rattle.sms_handset.specs.declared.event.HandsetEvent.TheVariants.{Tick}
use Rattle.sms_handset_link.specs.Run.{received}
use Rattle.sms_handset_link.proofs.Courses.{closed_leaves, meets_join, meets_one, nothing_read}
use Rattle.sms_handset_link.proofs.run.turn.Goals as goal

pub returns-then-connected : goal.returns-then-connected
returns-then-connected g c =
    let ticked = c.in_ok-tick.ensures in
    let read = c.in_ok-connected.ensures.octets in
    let met = c.in_ok-left.ensures in (
      met.0,
      read.0,
      (
        read.1.0,
        read.1.1,
        sym read.1.2 ∙ met.1.0,
        meets_join (Tick c.args.now ∷ []) (map received met.0) _ _ _ _ _ _ (meets_one (Tick c.args.now) _ _ _ _ ticked.0 ticked.1.0 ticked.1.1) met.1.1,
        inl (met.1.2, met.1.3),
      ),
    )

pub returns-else-connected : goal.returns-else-connected
returns-else-connected g c =
    let ticked = c.in_ok-tick.ensures in
    let read = c.in_ok-connected.ensures.octets in
    let met = c.in_ok-left.ensures in (
      met.0,
      read.0,
      (
        read.1.0,
        read.1.1,
        sym read.1.2 ∙ met.1.0,
        meets_join (Tick c.args.now ∷ []) (map received met.0) _ _ _ _ _ _ (meets_one (Tick c.args.now) _ _ _ _ ticked.0 ticked.1.0 ticked.1.1) met.1.1,
        closed_leaves c.args.most _ _ read.0 c.meet_frames.new.buffer (nothing_read _ _ _ read.1.2 (c.in_ok-connected.ensures.closed c.if-connected.false)) met.1.2 met.1.3,
      ),
    )

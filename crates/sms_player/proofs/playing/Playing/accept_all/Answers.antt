use Rattle.std.proofs.Common.{◌∙◌, ◌++◌, ap, List, length, arith, sym, subst}
use Rattle.sms_centre_spec.specs.declared.rows.Rows.{Rows}
use Rattle.sms_player.specs.playing.Plays.{Represents}
use Rattle.sms_player.specs.playing.Played.{PlayingOf}
use Rattle.sms_player.proofs.playing.Outcomes.{accepts_next, all_looked_at, no_more, none_accepted}
use Rattle.sms_centre_rows.specs.declared.reports.delivery.Delivery.{Delivery}
use Rattle.sms_player.proofs.playing.Playing.accept_all.Goals as goal

pub loop-place-init : goal.loop-place-init
loop-place-init c = λ play d shown.
    let was = subst (λ (p : PlayingOf). Represents play p) (sym c.self.view_is) shown in
    none_accepted d (length play.centre.rows.reports) c.count_reports-most.result c.args.deliveries c.into_vec-waiting.result.items play c.args.self.now shown
    (c.count_reports-most.ensures ∙ ap (λ (rows : Rows). length rows.reports) was.centre.same_rows) c.into_vec-waiting.ensures

pub returns-then-place-len : goal.returns-then-place-len
returns-then-place-len c = λ play d shown.
    all_looked_at d (length play.centre.rows.reports) c.count_reports-most.result c.loop-place.place c.args.deliveries c.loop-place.waiting.items play c.loop-place.self
    (c.loop-place.invariant play d shown) (omega (arith, c.if-place-len.true, c.len.ensures))

pub loop-place-preserved : goal.loop-place-preserved
loop-place-preserved c = λ play d shown.
    let a = c.loop-place.invariant play d shown in
    accepts_next d (length play.centre.rows.reports) c.count_reports-most.result c.loop-place.place c.args.deliveries c.loop-place.waiting.items c.in_ok-more.more c.append.new.waiting.items c.index.result.now play c.loop-place.self c.accept.new.self a
    (omega (arith, c.if-place-len.false, c.len.ensures)) c.loop-place-test.true c.index.ensures (c.in_ok-more.ensures.more a.now a.represents)
    (c.in_ok-append.ensures ∙ ap (λ (xs : List Delivery). c.loop-place.waiting.items ++ xs) c.as_slice.ensures) (c.in_ok-more.ensures.represents a.now a.represents)

pub returns : goal.returns
returns c = λ play d shown.
    no_more d (length play.centre.rows.reports) c.count_reports-most.result c.loop-place.place c.args.deliveries c.loop-place.waiting.items play c.loop-place.self
    (c.loop-place.invariant play d shown) (omega (arith, c.loop-place-test.false))

use Rattle.std.proofs.Common.{◌∙◌, ap, refl, subst, sym}
use Rattle.sms_handset_draft.specs.Outcome.{Outcome}
use Rattle.sms_play.specs.PlayState.{Party}
use Rattle.sms_play.specs.HandsetSide.{happened}
use Rattle.sms_player_handset.specs.Meeting.{Meets}
use Rattle.sms_player_handset.proofs.Events.{meets_planned}
use Rattle.sms_player_handset.proofs.played.PlayedHandset.meet.Goals as goal

pub returns-in-Ok : goal.returns-in-Ok
returns-in-Ok c =
    let old : Party = record { number = c.self.inside.number; core = c.self.inside.stored.core; accepted = c.self.inside.history.accepted; joined = c.self.inside.history.joined } in
    let new : Party = record { number = c.self.inside.number; core = c.carry_out.new.stored.core; accepted = c.carry_out.new.history.accepted; joined = c.carry_out.new.history.joined } in
    let plans = c.in-Ok.ensures.plan in
    subst (λ (p : Party). Meets c.carry_out.result p new c.args.given.now c.carry_out.new.given (happened c.args.event.now p.core)) c.self.view_is
    (meets_planned c.carry_out.result old new c.args.given.now c.carry_out.new.given (happened c.args.event.now old.core) plans.0 c.in-Ok.planned.outcome c.moment_after-moment.result
    plans.1.0 plans.1.1.outcome (c.rows_rest_on_the_changes.ensures c.args.event.now old.core)
    (c.only_ticks_advance_time.ensures c.args.event.now old.core plans.0 plans.1.0 ∙ sym c.moment_after-moment.ensures) refl
    c.carry_out.ensures.met c.carry_out.ensures.state (rw (c.digits.ensures) at (c.carry_out.ensures.accepted)) (rw (c.digits.ensures) at (c.carry_out.ensures.joined))
    (rw (c.digits.ensures) at (c.carry_out.ensures.given)))

pub carry_out-requires-clause-moment : goal.carry_out-requires-clause-moment
carry_out-requires-clause-moment c =
    let plans = c.in-Ok.ensures.plan in
    c.moment_after-moment.ensures ∙ sym (c.only_ticks_advance_time.ensures c.args.event.now c.self.inside.stored.core plans.0 plans.1.0) ∙ ap (λ (o : Outcome). o.moment) (sym plans.1.1.outcome)

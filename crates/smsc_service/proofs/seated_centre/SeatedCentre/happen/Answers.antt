use Rattle.std.proofs.Common.{◌∙◌, ⊎_elim, ap, inl, inr, refl, subst, sym}
use Rattle.sms_centre.specs.Enrolling.{accounts_of}
use Rattle.sms_centre.specs.state.CentreState.{Represents, CentreStateOf}
use Rattle.sms_centre_group.specs.Grouping.{group_state, held_in}
use Rattle.sms_centre_spec.specs.Draft.{rows_after}
use Rattle.sms_centre_spec.specs.declared.rows.Changes.{Changes}
use Rattle.sms_rows.specs.keep.Refusing.{one_more}
use Rattle.smsc_service.specs.InSeated.{IsLeft, Reaches}
use Rattle.smsc_service.proofs.ByFate.{gave_up, was_given_up, was_refused}
use Rattle.smsc_service.proofs.seated_centre.SeatedCentre.happen.Goals as goal

pub returns-in-Ok-clause-gives : goal.returns-in-Ok-clause-gives
returns-in-Ok-clause-gives g c = λ s base honest sound made.
    let planned = c.in-Ok.ensures.outcome s.core base made.centre sound made.rows.1 (c.reply_and_hold.ensures.before honest) (made.rows.0, refl) in
    c.reply_and_hold.ensures.gives c.args.event.now s base c.plan.ensures.event planned.0 honest sound (record {
      rows = (planned.1.0.0, made.rows.1 ∙ ap (λ (h : Changes). rows_after h base) planned.1.0.1);
      centre = subst (λ (x : CentreStateOf). Represents s.core x) (sym c.plan.ensures.same) made.centre;
      seats = made.seats;
    })

pub returns-in-Err-clause-gives : goal.returns-in-Err-clause-gives
returns-in-Err-clause-gives g c = λ s base honest sound made.
    let seated = record c.args.self.now { machine = c.plan.new.self } in
    let held = held_in c.args.self.now.machine.keep in
    let group = group_state g.K.RowStore.state c.plan.new.self.keep in
    gave_up (Reaches g.K.RowStore.state base seated) (IsLeft g.K.RowStore.state base seated) c.plan.new.self.centre c.args.self.now.seat_map s c.args.stimulus.now c.args.event.now c.give_up.result.fate c.give_up.result.outs
    (group.holds (base, held)) group.is_closed c.args.self.now.machine.keep.refusals c.plan.new.self.keep.refusals c.in-Err.error c.give_up.ensures.fate c.give_up.ensures.outs
    (λ h. record {
      rows = (h.0, made.rows.1 ∙ ap (λ (x : Changes). rows_after x base) h.1);
      centre = subst (λ (x : CentreStateOf). Represents s.core x) (sym c.plan.ensures.same) made.centre;
      seats = made.seats;
    })
    (λ ends. ⊎_elim (λ h. inl h.0) (λ closed. inr closed) ends)
    (c.in-Err.ensures.outcome s.core base made.centre sound made.rows.1 honest (made.rows.0, refl))

pub returns-in-Ok-clause-refused : goal.returns-in-Ok-clause-refused
returns-in-Ok-clause-refused g c = λ s base honest sound made e.
    let planned = c.in-Ok.ensures.outcome s.core base made.centre sound made.rows.1 (c.reply_and_hold.ensures.before honest) (made.rows.0, refl) in
    let refused = c.reply_and_hold.ensures.refused e in (refused.0 ∙ ap one_more planned.1.1, refused.1 ∙ ap accounts_of c.plan.ensures.same)

pub returns-in-Ok-clause-told : goal.returns-in-Ok-clause-told
returns-in-Ok-clause-told g c = λ s base honest sound made e.
    let planned = c.in-Ok.ensures.outcome s.core base made.centre sound made.rows.1 (c.reply_and_hold.ensures.before honest) (made.rows.0, refl) in
    c.reply_and_hold.ensures.told e ∙ planned.0.outputs.answer

pub returns-in-Err-clause-told : goal.returns-in-Err-clause-told
returns-in-Err-clause-told g c = λ s base honest sound made e. was_given_up c.in-Err.error _ _ c.give_up.ensures.fate e

pub returns-in-Err-clause-refused : goal.returns-in-Err-clause-refused
returns-in-Err-clause-refused g c = λ s base honest sound made e.
    let held = held_in c.args.self.now.machine.keep in
    let group = group_state g.K.RowStore.state c.plan.new.self.keep in (
      was_refused (group.holds (base, held)) group.is_closed c.args.self.now.machine.keep.refusals c.plan.new.self.keep.refusals s c.args.event.now c.in-Err.error c.give_up.result.fate c.give_up.ensures.fate
          (c.in-Err.ensures.outcome s.core base made.centre sound made.rows.1 honest (made.rows.0, refl)) e,
      ap accounts_of c.plan.ensures.same,
    )

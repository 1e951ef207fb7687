use Rattle.std.proofs.Common.{◌≡◌, ◌∙◌, subst, sym}
use Rattle.sms_keeper.specs.declared.machine.Fate.{Fate}
use Rattle.sms_keeper.specs.declared.machine.Fate.TheVariants.{Done}
use Rattle.smsc_service.specs.Asking.{UnlessEvent}
use Rattle.smsc_service.specs.InSeated.{IsLeft, Reaches, held_by}
use Rattle.smsc_service.proofs.ByFate.{done_is_made}
use Rattle.smsc_service.proofs.ByOctets.{is_step}
use Rattle.smsc_service.proofs.seated_centre.SeatedCentre.answer.Goals as goal

pub returns-clause-gives : goal.returns-clause-gives
returns-clause-gives g c = λ s base honest sound made.
    let seated = c.serve-made.new.self in
    is_step (Reaches g.K.RowStore.state base seated) (IsLeft g.K.RowStore.state base seated) seated.machine.centre seated.seat_map s c.args.stimulus.now
    c.args.asked.now c.serve-made.result.fate c.answered.result.fate c.serve-made.result.outs c.answered.result.outs c.answered.ensures.fate (c.serve-made.ensures.gives s base honest sound made) c.answered.ensures.outs

pub returns-clause-late : goal.returns-clause-late
returns-clause-late g c = λ e. c.serve-made.ensures.late e

pub returns-clause-refused : goal.returns-clause-refused
returns-clause-refused g c = λ s base honest sound made e. c.serve-made.ensures.refused s base honest sound made (sym c.answered.ensures.fate ∙ e)

pub returns-clause-told : goal.returns-clause-told
returns-clause-told g c = λ s base honest sound made e.
    c.answered.ensures.told (done_is_made _ e) ∙ c.serve-made.ensures.told s base honest sound made (sym c.answered.ensures.fate ∙ e)

pub returns-clause-archived : goal.returns-clause-archived
returns-clause-archived g c = λ s base honest sound made e. c.serve-made.ensures.archived s base honest sound made (sym c.answered.ensures.fate ∙ e)

pub returns-clause-quiet : goal.returns-clause-quiet
returns-clause-quiet g c =
    subst (λ (f : Fate). UnlessEvent c.args.asked.now ((held_by c.serve-made.new.self ≡ held_by c.args.self.now) × (f ≡ Done))) (sym c.answered.ensures.fate) c.serve-made.ensures.quiet

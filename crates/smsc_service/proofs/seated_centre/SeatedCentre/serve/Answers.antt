use Rattle.std.proofs.Common.{◌≡◌, ◌∙◌, ap, refl, subst, sym}
use Rattle.sms_keeper.specs.declared.machine.Fate.TheVariants.{Done}
use Rattle.sms_centre.specs.Archiving.{AreArchived}
use Rattle.sms_centre_spec.specs.forgetting.Forget.{going_now}
use Rattle.smsc_service.specs.declared.asking.SeatRequest.{SeatRequest}
use Rattle.smsc_service.specs.declared.asking.SeatRequest.TheVariants.{Nothing, Taken}
use Rattle.smsc_service.specs.Asking.{IfForget, UnlessEvent, answer_of}
use Rattle.smsc_service.specs.InSeated.{IsLeft, Reaches, held_by}
use Rattle.smsc_service.specs.Replies.{nothing_by}
use Rattle.smsc_service.specs.Seats.{Seats}
use Rattle.smsc_service.specs.Serving.{Serves}
use Rattle.smsc_service.proofs.ByFate.{was_done, with_fate}
use Rattle.smsc_service.proofs.seated_centre.SeatedCentre.serve.Goals as goal

pub returns-in-Event-clause-gives : goal.returns-in-Event-clause-gives
returns-in-Event-clause-gives g c = λ s base honest sound made.
    let seated = c.begin.new.self in
    subst (λ (a : SeatRequest). Serves (Reaches g.K.RowStore.state base seated) (IsLeft g.K.RowStore.state base seated) seated.machine.centre seated.seat_map a s c.args.stimulus.now c.begin.result.fate c.begin.result.outs)
    (sym c.in-Event.is) (c.begin.ensures.gives s base honest sound made)

pub returns-in-Forget-clause-gives : goal.returns-in-Forget-clause-gives
returns-in-Forget-clause-gives g c = λ s base honest sound made.
    let seated = c.forget.new.self in
    subst (λ (a : SeatRequest). Serves (Reaches g.K.RowStore.state base seated) (IsLeft g.K.RowStore.state base seated) seated.machine.centre seated.seat_map a s c.args.stimulus.now c.forget.result.fate c.forget.result.outs)
    (sym c.in-Forget.is) (c.forget.ensures.gives s base honest sound made)

pub returns-in-Enrol-clause-gives : goal.returns-in-Enrol-clause-gives
returns-in-Enrol-clause-gives g c = λ s base honest sound made.
    let seated = c.enrol.new.self in
    subst (λ (a : SeatRequest). Serves (Reaches g.K.RowStore.state base seated) (IsLeft g.K.RowStore.state base seated) seated.machine.centre seated.seat_map a s c.args.stimulus.now c.enrol.result.fate c.enrol.result.outs)
    (sym c.in-Enrol.is) (c.enrol.ensures.gives s base honest sound made)

pub returns-in-Nothing-clause-gives : goal.returns-in-Nothing-clause-gives
returns-in-Nothing-clause-gives g c = λ s base honest sound made.
    let seated = c.args.self.now in
    subst (λ (a : SeatRequest). Serves (Reaches g.K.RowStore.state base seated) (IsLeft g.K.RowStore.state base seated) seated.machine.centre seated.seat_map a s c.args.stimulus.now c.unasked.result.fate c.unasked.result.outs)
    (sym c.in-Nothing.is)
    (with_fate (Reaches g.K.RowStore.state base seated) (IsLeft g.K.RowStore.state base seated) seated.machine.centre seated.seat_map s c.args.stimulus.now Nothing c.unasked.result.fate Done c.unasked.result.outs
    c.unasked.ensures.fate (c.unasked.ensures.outs ∙ ap (λ (x : Seats). nothing_by x c.args.stimulus.now) made.seats, made))

pub returns-in-Taken-clause-gives : goal.returns-in-Taken-clause-gives
returns-in-Taken-clause-gives g c = λ s base honest sound made.
    let seated = c.args.self.now in
    subst (λ (a : SeatRequest). Serves (Reaches g.K.RowStore.state base seated) (IsLeft g.K.RowStore.state base seated) seated.machine.centre seated.seat_map a s c.args.stimulus.now c.turned_away.result.fate c.turned_away.result.outs)
    (sym c.in-Taken.is)
    (with_fate (Reaches g.K.RowStore.state base seated) (IsLeft g.K.RowStore.state base seated) seated.machine.centre seated.seat_map s c.args.stimulus.now Taken c.turned_away.result.fate Done c.turned_away.result.outs
    c.turned_away.ensures.fate (c.turned_away.ensures.outs, made))

pub returns-in-Event-clause-refused : goal.returns-in-Event-clause-refused
returns-in-Event-clause-refused g c = λ s base honest sound made e. c.begin.ensures.refused s base honest sound made e

pub returns-in-Forget-clause-refused : goal.returns-in-Forget-clause-refused
returns-in-Forget-clause-refused g c = λ s base honest sound made e. c.forget.ensures.refused e

pub returns-in-Enrol-clause-refused : goal.returns-in-Enrol-clause-refused
returns-in-Enrol-clause-refused g c = λ s base honest sound made e. c.enrol.ensures.refused e

pub returns-in-Nothing-clause-refused : goal.returns-in-Nothing-clause-refused
returns-in-Nothing-clause-refused g c = λ s base honest sound made e. was_done _ _ c.unasked.ensures.fate e

pub returns-in-Taken-clause-refused : goal.returns-in-Taken-clause-refused
returns-in-Taken-clause-refused g c = λ s base honest sound made e. was_done _ _ c.turned_away.ensures.fate e

pub returns-in-Event-clause-late : goal.returns-in-Event-clause-late
returns-in-Event-clause-late g c = λ e. (c.begin.ensures.late e).1

pub returns-in-Forget-clause-late : goal.returns-in-Forget-clause-late
returns-in-Forget-clause-late g c = λ e. c.forget.ensures.late e

pub returns-in-Enrol-clause-late : goal.returns-in-Enrol-clause-late
returns-in-Enrol-clause-late g c = λ e. c.enrol.ensures.late e

pub returns-in-Nothing-clause-late : goal.returns-in-Nothing-clause-late
returns-in-Nothing-clause-late g c = λ e. refl

pub returns-in-Taken-clause-late : goal.returns-in-Taken-clause-late
returns-in-Taken-clause-late g c = λ e. refl

pub returns-in-Event-clause-quiet : goal.returns-in-Event-clause-quiet
returns-in-Event-clause-quiet g c =
    subst (λ (a : SeatRequest). UnlessEvent a ((held_by c.begin.new.self ≡ held_by c.args.self.now) × (c.begin.result.fate ≡ Done))) (sym c.in-Event.is) tt

pub returns-in-Forget-clause-quiet : goal.returns-in-Forget-clause-quiet
returns-in-Forget-clause-quiet g c =
    subst (λ (a : SeatRequest). UnlessEvent a ((held_by c.forget.new.self ≡ held_by c.args.self.now) × (c.forget.result.fate ≡ Done))) (sym c.in-Forget.is) tt

pub returns-in-Enrol-clause-quiet : goal.returns-in-Enrol-clause-quiet
returns-in-Enrol-clause-quiet g c =
    subst (λ (a : SeatRequest). UnlessEvent a ((held_by c.enrol.new.self ≡ held_by c.args.self.now) × (c.enrol.result.fate ≡ Done))) (sym c.in-Enrol.is) tt

pub returns-in-Nothing-clause-quiet : goal.returns-in-Nothing-clause-quiet
returns-in-Nothing-clause-quiet g c =
    subst (λ (a : SeatRequest). UnlessEvent a ((held_by c.args.self.now ≡ held_by c.args.self.now) × (c.unasked.result.fate ≡ Done))) (sym c.in-Nothing.is) (refl, c.unasked.ensures.fate)

pub returns-in-Taken-clause-quiet : goal.returns-in-Taken-clause-quiet
returns-in-Taken-clause-quiet g c =
    subst (λ (a : SeatRequest). UnlessEvent a ((held_by c.args.self.now ≡ held_by c.args.self.now) × (c.turned_away.result.fate ≡ Done))) (sym c.in-Taken.is) (refl, c.turned_away.ensures.fate)

pub returns-in-Event-clause-told : goal.returns-in-Event-clause-told
returns-in-Event-clause-told g c = λ s base honest sound made e.
    subst (λ (a : SeatRequest). c.begin.result.told ≡ answer_of a s.core) (sym c.in-Event.is) (c.begin.ensures.told s base honest sound made e)

pub returns-in-Enrol-clause-told : goal.returns-in-Enrol-clause-told
returns-in-Enrol-clause-told g c = λ s base honest sound made e.
    subst (λ (a : SeatRequest). c.enrol.result.told ≡ answer_of a s.core) (sym c.in-Enrol.is) c.enrol.ensures.told

pub returns-in-Nothing-clause-told : goal.returns-in-Nothing-clause-told
returns-in-Nothing-clause-told g c = λ s base honest sound made e.
    subst (λ (a : SeatRequest). c.unasked.result.told ≡ answer_of a s.core) (sym c.in-Nothing.is) c.unasked.ensures.told

pub returns-in-Taken-clause-told : goal.returns-in-Taken-clause-told
returns-in-Taken-clause-told g c = λ s base honest sound made e.
    subst (λ (a : SeatRequest). c.turned_away.result.told ≡ answer_of a s.core) (sym c.in-Taken.is) c.turned_away.ensures.told

pub returns-in-Forget-clause-told : goal.returns-in-Forget-clause-told
returns-in-Forget-clause-told g c = λ s base honest sound made e.
    subst (λ (a : SeatRequest). c.forget.result.told ≡ answer_of a s.core) (sym c.in-Forget.is) c.forget.ensures.told

pub returns-in-Event-clause-archived : goal.returns-in-Event-clause-archived
returns-in-Event-clause-archived g c = λ s base honest sound made e.
    subst (λ (a : SeatRequest). IfForget (λ before from most. AreArchived (g.A.Archive.keeps c.args.archive.now) (going_now before from most s.core) s.core.rows) a) (sym c.in-Event.is) tt

pub returns-in-Enrol-clause-archived : goal.returns-in-Enrol-clause-archived
returns-in-Enrol-clause-archived g c = λ s base honest sound made e.
    subst (λ (a : SeatRequest). IfForget (λ before from most. AreArchived (g.A.Archive.keeps c.args.archive.now) (going_now before from most s.core) s.core.rows) a) (sym c.in-Enrol.is) tt

pub returns-in-Nothing-clause-archived : goal.returns-in-Nothing-clause-archived
returns-in-Nothing-clause-archived g c = λ s base honest sound made e.
    subst (λ (a : SeatRequest). IfForget (λ before from most. AreArchived (g.A.Archive.keeps c.args.archive.now) (going_now before from most s.core) s.core.rows) a) (sym c.in-Nothing.is) tt

pub returns-in-Taken-clause-archived : goal.returns-in-Taken-clause-archived
returns-in-Taken-clause-archived g c = λ s base honest sound made e.
    subst (λ (a : SeatRequest). IfForget (λ before from most. AreArchived (g.A.Archive.keeps c.args.archive.now) (going_now before from most s.core) s.core.rows) a) (sym c.in-Taken.is) tt

pub returns-in-Forget-clause-archived : goal.returns-in-Forget-clause-archived
returns-in-Forget-clause-archived g c = λ s base honest sound made e.
    subst (λ (a : SeatRequest). IfForget (λ before from most. AreArchived (g.A.Archive.keeps c.forget.new.archive) (going_now before from most s.core) s.core.rows) a) (sym c.in-Forget.is) (c.forget.ensures.archived s base honest sound made e)

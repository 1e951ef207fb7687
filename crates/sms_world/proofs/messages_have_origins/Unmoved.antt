-- What follows an event of the centre in a script, receipts that are accepted at once, leaves messages and parts as they are.
use Rattle.std.proofs.Common.{◌≡◌, ℕ, zero, suc, List, [], ◌∷◌, ◌++◌, Bool, true, Option, Some, None, refl, ◌∙◌}
use Rattle.std.proofs.lemmas.Bool.{cond_both}
use Rattle.sms_rows.specs.table.Table.{row_at}
use Rattle.sms_centre_rows.specs.declared.messages.message.MessageRow.{MessageRow}
use Rattle.sms_centre_rows.specs.declared.messages.part.PartRow.{PartRow}
use Rattle.sms_centre_rows.specs.messages.SplitReferences.{is_among}
use Rattle.sms_centre_rows.specs.declared.reports.delivery.Delivery.{Delivery}
use Rattle.sms_centre_rows.specs.reports.Receipts.{Session, session_key}
use Rattle.sms_centre_spec.specs.declared.answer.CentreAnswer.{CentreAnswer}
use Rattle.sms_centre_spec.specs.declared.event.CentreEvent.{CentreEvent}
use Rattle.sms_centre_spec.specs.declared.event.CentreEvent.TheVariants.{DeliverAnswered}
use Rattle.sms_centre_spec.specs.CentreEvent.{happened}
use Rattle.sms_centre_spec.specs.Draft.{Core, Draft, Store, draft_of, messages_in, parts_in}
use Rattle.sms_centre_spec.specs.Sessions.{answered_by}
use Rattle.sms_play.specs.CentreSide.{accepted_after, centre_meets, done, with_answer, whole}
use Rattle.sms_play.specs.PlayState.{PlayState}

-- the messages and parts of a course
abbrev pub Rows : Type 0
Rows = List MessageRow × List PartRow

abbrev pub rows_of : PlayState → Rows
rows_of c = (c.centre.rows.messages, c.centre.rows.parts)

abbrev pub rows_in : Store → Rows
rows_in s = (messages_in s, parts_in s)

answered_leaves : (id : ℕ) (b : Bool) (o : Option Session) (d : Draft) → rows_in (answered_by id b o d).store ≡ rows_in d.store
answered_leaves id b None d = refl
answered_leaves id b (Some session) d = cond_both (is_among id session.unanswered) _ d (λ (e : Draft). rows_in e.store ≡ rows_in d.store) (λ t. refl) (λ t. refl)

accepting_leaves : (session id : ℕ) (b : Bool) (c : Core) → rows_in (happened (DeliverAnswered session id b) c).store ≡ (c.rows.messages, c.rows.parts)
accepting_leaves session id b c = answered_leaves id b (row_at session_key session c.sessions) (draft_of c)

accepted_leaves : (d : Draft) (most : ℕ) (waiting : List Delivery) (c : PlayState) → rows_of (accepted_after d most waiting c) ≡ rows_of c
accepted_leaves d zero waiting c = refl
accepted_leaves d (suc most) [] c = refl
accepted_leaves d (suc most) (x ∷ waiting) c =
    let event : CentreEvent = DeliverAnswered x.session x.id true in
    let e : Draft = happened event c.centre in
    accepted_leaves e most (waiting ++ e.bindings.deliveries) (done e c) ∙ accepting_leaves x.session x.id true c.centre

reported_leaves : (n : ℕ) (a : Option CentreAnswer) (c : PlayState) → rows_of (with_answer n a c) ≡ rows_of c
reported_leaves n None c = refl
reported_leaves n (Some a) c = refl

pub whole_leaves : (d : Draft) (c : PlayState) → rows_of (whole d c) ≡ rows_in d.store
whole_leaves d c = accepted_leaves d _ d.bindings.deliveries (done d c)

pub meets_leaves : (n : ℕ) (e : CentreEvent) (c : PlayState) → rows_of (centre_meets n e c) ≡ rows_in (happened e c.centre).store
meets_leaves n e c =
    let d : Draft = happened e c.centre in
    reported_leaves n d.answer (whole d c) ∙ accepted_leaves d _ d.bindings.deliveries (done d c)

use Rattle.std.proofs.Common.{refl, ◌∙◌, Result, Ok, Err}
use Rattle.std.specs.Result.{IfErr}
use Rattle.sms_rows.specs.table.Keys.{digits_key}
use Rattle.sms_centre_queue.specs.queues.Queues.{at}
use Rattle.sms_centre_queue.proofs.queues.Asking.{asked_place, asked_reference}
use Rattle.sms_centre_queue.proofs.queues.draft.DeliveryQueuesDraft.next_reference.Goals as goal

pub returns-clause-reference : goal.returns-clause-reference
returns-clause-reference c g links w represents =
    c.in_ok-reference.ensures.reference
    ∙ asked_reference c.args.number (at (digits_key c.args.number) c.args.self.now) c.args.self.now c.args.now c.queue_reference.ensures.number refl g links w represents

each_err : {X E : Type 0} (P : Type 0) (r : Result X E) → P → IfErr r (λ error. P)
each_err P (Ok x) p = tt
each_err P (Err e) p = p

pub returns-in_err-reference-clause-err : goal.returns-in_err-reference-clause-err
returns-in_err-reference-clause-err c =
    each_err _ c.from_residual.result (λ g links w represents.
    asked_place c.args.number c.args.self.now c.queue_reference.ensures.number c.in_err-reference.ensures.err g links w represents)

use Rattle.std.proofs.Common.{ℕ, refl, ◌∙◌, ap, Result, Ok, Err}
use Rattle.std.specs.Prelude.{nat_le}
use Rattle.std.specs.Result.{IfErr}
use Rattle.sms_rows.specs.table.Keys.{digits_key}
use Rattle.sms_centre_queue.specs.queues.Queues.{at}
use Rattle.sms_centre_queue.proofs.queues.Asking.{asked_free, asked_place}
use Rattle.sms_centre_queue.proofs.queues.draft.DeliveryQueuesDraft.has_free.Goals as goal

pub returns-clause-is : goal.returns-clause-is
returns-clause-is c = λ g links w represents.
    c.in_ok-is_free.ensures.is
    ∙ ap (λ (n : ℕ). nat_le c.args.wanted n)
    (asked_free c.args.number (at (digits_key c.args.number) c.args.self.now) c.args.self.now c.args.now c.queue_has_free.ensures.number refl g links w represents)

each_err : {X E : Type 0} (P : Type 0) (r : Result X E) → P → IfErr r (λ error. P)
each_err P (Ok x) p = tt
each_err P (Err e) p = p

pub returns-in_err-is_free-clause-err : goal.returns-in_err-is_free-clause-err
returns-in_err-is_free-clause-err c =
    each_err _ c.from_residual.result (λ g links w represents.
    asked_place c.args.number c.args.self.now c.queue_has_free.ensures.number c.in_err-is_free.ensures.err g links w represents)

use Rattle.std.proofs.Common.{ℕ, List, OnOk, subst}
use Rattle.sms_rows.specs.table.Table.{put}
use Rattle.sms_centre_queue.specs.queues.Representing.{DraftRepresents, Waits}
use Rattle.sms_centre_rows.specs.declared.waiting.queued_part.QueuedPart.{QueuedPart}
use Rattle.sms_centre_rows.specs.waiting.Keys.{queued_key}
use Rattle.sms_centre_rows.specs.waiting.Links.{Links}
use Rattle.sms_centre_rows.specs.waiting.References.{Allocations}
use Rattle.sms_centre_recovery.proofs.starting.filling.put_for.Goals as goal

pub returns-in-Some : goal.returns-in-Some
returns-in-Some c =
    subst (λ (source : List ℕ). OnOk c.put.result ((g : Allocations) (links : Links) (waiting after : List ℕ → List QueuedPart) → DraftRepresents g links waiting c.args.queues.now
    → Waits source (put queued_key c.args.queued) waiting after → DraftRepresents g links after c.put.new.self)) c.in-Some.ensures.1 c.put.ensures

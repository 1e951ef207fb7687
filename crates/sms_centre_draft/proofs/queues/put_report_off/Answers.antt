use Rattle.std.proofs.Common.{◌≡◌, ℕ, List, Some, OnOk, subst}
use Rattle.sms_rows.specs.table.Keys.{pair_key}
use Rattle.sms_rows.specs.table.Table.{put, row_at}
use Rattle.sms_centre_queue.specs.queues.Representing.{DraftRepresents, Waits}
use Rattle.sms_centre_rows.specs.declared.waiting.queued_part.QueuedPart.{QueuedPart}
use Rattle.sms_centre_rows.specs.waiting.Keys.{queued_key}
use Rattle.sms_centre_rows.specs.waiting.Links.{Links}
use Rattle.sms_centre_rows.specs.waiting.References.{Allocations}
use Rattle.sms_centre_draft.proofs.queues.put_report_off.Goals as goal

pub returns-in-Some : goal.returns-in-Some
returns-in-Some c =
    subst (λ (source : List ℕ). OnOk c.put_off.result ((g : Allocations) (links : Links) (waiting after : List ℕ → List QueuedPart) (l : QueuedPart) → DraftRepresents g links waiting c.args.queues.now
    → row_at queued_key (pair_key c.args.id 0) (waiting source) ≡ Some l → Waits source (put queued_key (record l { due = c.args.due })) waiting after
    → DraftRepresents g links after c.put_off.new.queues)) c.in-Some.ensures.1 c.put_off.ensures

use Rattle.std.proofs.Common.{◌≡◌, Some, sym, ◌∙◌, ap, subst}
use Rattle.sms_rows.specs.table.Table.{put}
use Rattle.sms_centre_rows.specs.declared.waiting.queued_part.QueuedPart.{QueuedPart}
use Rattle.sms_centre_rows.specs.waiting.Keys.{queued_key}
use Rattle.sms_centre_queue.specs.queues.Representing.{Waits}
use Rattle.sms_centre_draft.proofs.Steps.{if_ok}
use Rattle.sms_centre_draft.proofs.queues.put_off.Goals as goal

pub returns-in-Some : goal.returns-in-Some
returns-in-Some c =
    if_ok c.put.result c.put.ensures (λ f g links w after l represents there waits.
    let same : Some c.in-Some.queued ≡ Some l = c.in-Some.ensures g links w represents ∙ there in
    let one : c.in-Some.queued ≡ l = cc in
    f g links w after represents (subst (λ (x : QueuedPart). Waits c.args.number (put queued_key x) w after) (sym (c.due_then.ensures ∙ ap (λ (x : QueuedPart). record x { due = c.args.due }) one)) waits))

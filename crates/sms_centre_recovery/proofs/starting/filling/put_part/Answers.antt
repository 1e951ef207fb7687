use Rattle.std.proofs.Common.{◌≡◌, ℕ, List, ◌∷◌, Some, sym, ◌∙◌, ap, subst}
use Rattle.sms_centre_rows.specs.messages.Messages.{message_at, message_key}
use Rattle.sms_centre_rows.specs.messages.OpenParts.{parts_waiting}
use Rattle.sms_centre_queue.specs.queues.Representing.{DraftRepresents, Waits}
use Rattle.sms_rows.specs.table.Table.{put, row_at}
use Rattle.sms_centre_rows.specs.declared.waiting.queued_part.QueuedPart.{QueuedPart}
use Rattle.sms_centre_rows.specs.waiting.Keys.{queued_key}
use Rattle.sms_centre_recovery.proofs.starting.QueuedWait.{part_done, part_waits}
use Rattle.sms_centre_recovery.proofs.starting.filling.put_part.Goals as goal
use Rattle.sms_centre_queue.proofs.queues.RepresentedMoves.{if_ok}

pub returns : goal.returns
returns c =
    let t = c.args.tables.now in
    let ms = t.messages.rows in
    let qs = t.priorities.rows in
    let p = c.args.part.now in
    let m = c.in-Some.message.now in
    let key = c.of.ensures ∙ c.number.ensures.value in
    let found : message_at p.id ms ≡ Some m = ap (λ (n : ℕ). row_at message_key n ms) (sym key) ∙ sym c.in-Some.ensures in
    let open_part = sym c.if-not-waits.ensures in
    if_ok c.put.result
    (λ f g links ps rises represents.
    f g links (λ (h : List ℕ). parts_waiting h ms qs ps) (λ (h : List ℕ). parts_waiting h ms qs (p ∷ ps)) represents
    (subst (λ (l : QueuedPart). Waits m.handset (put queued_key l) (λ (h : List ℕ). parts_waiting h ms qs ps) (λ (h : List ℕ). parts_waiting h ms qs (p ∷ ps))) (sym c.part_queued.ensures)
    (part_waits ms qs p m ps found open_part rises)))
    c.put.ensures

pub returns-then-part : goal.returns-then-part
returns-then-part c g links ps rises represents =
    let t = c.args.tables.now in
    subst (λ (waiting : List ℕ → List QueuedPart). DraftRepresents g links waiting c.args.queues.now)
    (λ i h. sym (part_done t.messages.rows t.priorities.rows h c.args.part.now ps c.if-part.true) i) represents

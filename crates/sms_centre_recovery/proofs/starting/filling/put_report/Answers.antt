use Rattle.std.proofs.Common.{◌≡◌, ℕ, List, ◌∷◌, Some, sym, ◌∙◌, ap, subst}
use Rattle.sms_centre_rows.specs.messages.Messages.{message_at, message_key}
use Rattle.sms_centre_rows.specs.reports.Waiting.{with_reports}
use Rattle.sms_centre_queue.specs.queues.Representing.{Waits}
use Rattle.sms_rows.specs.table.Table.{put, row_at}
use Rattle.sms_centre_rows.specs.declared.waiting.queued_part.QueuedPart.{QueuedPart}
use Rattle.sms_centre_rows.specs.waiting.Keys.{queued_key}
use Rattle.sms_centre_recovery.proofs.starting.QueuedWait.{report_waits}
use Rattle.sms_centre_recovery.proofs.starting.filling.put_report.Goals as goal
use Rattle.sms_centre_queue.proofs.queues.RepresentedMoves.{if_ok}

pub returns : goal.returns
returns c =
    let ms = c.args.tables.now.messages.rows in
    let r = c.args.report.now in
    let m = c.in-Some.message.now in
    let key = c.of.ensures ∙ c.number.ensures.value in
    let found : message_at r.id ms ≡ Some m = ap (λ (n : ℕ). row_at message_key n ms) (sym key) ∙ sym c.in-Some.ensures in
    let waits_now = sym c.if-not-is_open_status.ensures in
    if_ok c.put_for.result
    (λ f g links rs w represents.
    f g links (λ (h : List ℕ). with_reports h ms rs (w h)) (λ (h : List ℕ). with_reports h ms (r ∷ rs) (w h)) represents
    (subst (λ (l : QueuedPart). Waits m.source.digits (put queued_key l) (λ (h : List ℕ). with_reports h ms rs (w h)) (λ (h : List ℕ). with_reports h ms (r ∷ rs) (w h))) (sym c.report_queued.ensures)
    (report_waits ms w r m rs found waits_now)))
    c.put_for.ensures

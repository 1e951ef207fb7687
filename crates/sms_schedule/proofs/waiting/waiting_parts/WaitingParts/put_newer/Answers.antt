use Rattle.std.proofs.Common.{List, ◌++◌, ap, sym, subst, ◌∙◌}
use Rattle.sms_rows.specs.table.Table.{put, Rises}
use Rattle.sms_centre_rows.specs.declared.waiting.queued_part.QueuedPart.{QueuedPart}
use Rattle.sms_centre_rows.specs.waiting.Keys.{queued_key}
use Rattle.sms_schedule.specs.waiting.Base.{AllBelow}
use Rattle.sms_schedule.specs.waiting.Waiting.{WaitingPartsOf, queued_of}
use Rattle.sms_schedule.proofs.waiting.Parted.{put_parted, rises_put_parted}
use Rattle.sms_schedule.proofs.waiting.waiting_parts.WaitingParts.put_newer.Goals as goal

pub returns : goal.returns
returns c =
    let queued : QueuedPart = c.args.queued in
    let base = c.self.inside.base in
    let newer = c.self.inside.newer.rows in
    let below : AllBelow queued_key (queued_key queued) base = subst (λ (w : WaitingPartsOf). AllBelow queued_key (queued_key queued) w.base) (sym c.self.view_is) c.requires in
    ap (λ (ls : List QueuedPart). base ++ ls) c.in_ok-put.ensures.ok
    ∙ sym (put_parted queued_key queued base newer below)
    ∙ ap (λ (w : WaitingPartsOf). put queued_key queued (queued_of w)) c.self.view_is

pub invariant_of-self-2 : goal.invariant_of-self-2
invariant_of-self-2 c =
    let queued : QueuedPart = c.args.queued in
    let base = c.self.inside.base in
    let newer = c.self.inside.newer.rows in
    let below : AllBelow queued_key (queued_key queued) base = subst (λ (w : WaitingPartsOf). AllBelow queued_key (queued_key queued) w.base) (sym c.self.view_is) c.requires in
    subst (λ (ls : List QueuedPart). Rises queued_key (base ++ ls)) (sym c.in_ok-put.ensures.ok) (rises_put_parted queued_key queued base newer below c.self.invariant)

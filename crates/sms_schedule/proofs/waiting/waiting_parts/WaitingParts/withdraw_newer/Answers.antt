use Rattle.std.proofs.Common.{◌≡◌, List, ◌++◌, ap, sym, subst, ◌∙◌}
use Rattle.sms_rows.specs.table.Keys.{pair_key}
use Rattle.sms_rows.specs.table.Table.{Rises}
use Rattle.sms_centre_rows.specs.declared.waiting.queued_part.QueuedPart.{QueuedPart}
use Rattle.sms_centre_rows.specs.waiting.Keys.{queued_key}
use Rattle.sms_centre_rows.specs.waiting.Waiting.{withdrawn}
use Rattle.sms_schedule.specs.waiting.Base.{AllBelow}
use Rattle.sms_schedule.specs.waiting.Waiting.{WaitingPartsOf, queued_of}
use Rattle.sms_schedule.proofs.waiting.Parted.{rises_withdrawn_parted, withdrawn_parted}
use Rattle.sms_schedule.proofs.waiting.waiting_parts.WaitingParts.withdraw_newer.Goals as goal

pub returns : goal.returns
returns c =
    let id = c.args.id in
    let base = c.self.inside.base in
    let newer = c.self.inside.newer.rows in
    let below : AllBelow queued_key (pair_key id 0) base = subst (λ (w : WaitingPartsOf). AllBelow queued_key (pair_key id 0) w.base) (sym c.self.view_is) c.requires in
    let left : c.from_vec.result.rows ≡ withdrawn id newer = ap (λ t. t.rows) c.from_vec.ensures ∙ c.in_ok-all_queued.ensures ∙ ap (λ (ls : List QueuedPart). withdrawn id ls) c.as_slice.ensures.rows in
    ap (λ (ls : List QueuedPart). base ++ ls) left
    ∙ sym (withdrawn_parted id base newer below)
    ∙ ap (λ (w : WaitingPartsOf). withdrawn id (queued_of w)) c.self.view_is

pub invariant_of-self : goal.invariant_of-self
invariant_of-self c =
    let id = c.args.id in
    let base = c.self.inside.base in
    let newer = c.self.inside.newer.rows in
    let below : AllBelow queued_key (pair_key id 0) base = subst (λ (w : WaitingPartsOf). AllBelow queued_key (pair_key id 0) w.base) (sym c.self.view_is) c.requires in
    let left : c.from_vec.result.rows ≡ withdrawn id newer = ap (λ t. t.rows) c.from_vec.ensures ∙ c.in_ok-all_queued.ensures ∙ ap (λ (ls : List QueuedPart). withdrawn id ls) c.as_slice.ensures.rows in
    subst (λ (ls : List QueuedPart). Rises queued_key (base ++ ls)) (sym left) (rises_withdrawn_parted id base newer below c.self.invariant)

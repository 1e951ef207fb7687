use Rattle.std.proofs.Common.{◌≡◌, ◌++◌, List, ap, sym, subst, ◌∙◌}
use Rattle.sms_rows.specs.table.Table.{Rises}
use Rattle.sms_centre_rows.specs.declared.waiting.queued_part.QueuedPart.{QueuedPart}
use Rattle.sms_centre_rows.specs.waiting.Keys.{queued_key}
use Rattle.sms_schedule.proofs.waiting.waiting_parts.WaitingParts.table.Goals as goal

pub from_vec-requires : goal.from_vec-requires
from_vec-requires c =
    let all : c.in_ok-all_queued.all_queued.items ≡ c.self.inside.base ++ c.self.inside.newer.rows =
    c.in_ok-all_queued.ensures
    ∙ ap (λ (ls : List QueuedPart). ls ++ c.as_slice-2.result.now) c.as_slice.ensures.rows
    ∙ ap (λ (ls : List QueuedPart). c.self.inside.base ++ ls) c.as_slice-2.ensures.rows in
    subst (λ (ls : List QueuedPart). Rises queued_key ls) (sym all) c.self.invariant

use Rattle.std.proofs.Common.{◌≡◌, List, ◌++◌, subst}
use Rattle.sms_rows.specs.table.Table.{Rises}
use Rattle.sms_centre_rows.specs.declared.waiting.queued_part.QueuedPart.{QueuedPart}
use Rattle.sms_centre_rows.specs.waiting.Keys.{queued_key}
use Rattle.sms_schedule.specs.waiting.Waiting.{queued_of}
use Rattle.sms_schedule.proofs.waiting.waiting_parts.WaitingParts.is_ordered.Goals as goal

pub returns : goal.returns
returns c =
    let all : c.self.inside.base ++ c.self.inside.newer.rows ≡ queued_of c.args.self.now = cc in
    subst (λ (ls : List QueuedPart). Rises queued_key ls) all c.self.invariant

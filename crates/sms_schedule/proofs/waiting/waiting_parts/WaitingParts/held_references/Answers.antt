use Rattle.std.proofs.Common.{◌≡◌, List, ◌++◌, subst}
use Rattle.sms_centre_rows.specs.waiting.References.{AreHeld}
use Rattle.sms_centre_rows.specs.declared.waiting.queued_part.QueuedPart.{QueuedPart}
use Rattle.sms_schedule.specs.waiting.Waiting.{queued_of}
use Rattle.sms_schedule.proofs.waiting.waiting_parts.WaitingParts.held_references.Goals as goal

pub returns : goal.returns
returns c =
    let base = c.self.inside.base in
    let all : base ++ c.as_slice.result.now ≡ queued_of c.args.self.now = cc in
    subst (λ (ls : List QueuedPart). AreHeld c.held_with.result ls) all (c.held_with.ensures base c.held.ensures)

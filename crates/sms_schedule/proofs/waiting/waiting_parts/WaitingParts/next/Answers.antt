use Rattle.std.proofs.Common.{◌≡◌, List, [], ◌++◌, append-nil, refl, ap, ◌∙◌}
use Rattle.sms_centre_rows.specs.waiting.Waiting.{next}
use Rattle.sms_centre_rows.specs.declared.waiting.queued_part.QueuedPart.{QueuedPart}
use Rattle.sms_schedule.specs.waiting.Waiting.{queued_of}
use Rattle.sms_schedule.proofs.waiting.waiting_parts.WaitingParts.next.Goals as goal

pub returns : goal.returns
returns c =
    let now = c.args.now in
    let behind : c.first_due-behind.result ≡ next now c.as_slice.result.now = c.first_due-behind.ensures [] refl ∙ ap (λ (ls : List QueuedPart). next now ls) (append-nil c.as_slice.result.now) in
    let all : c.as_slice-2.result.now ++ c.as_slice.result.now ≡ queued_of c.args.self.now = cc in
    c.first_due.ensures c.as_slice.result.now behind ∙ ap (λ (ls : List QueuedPart). next now ls) all

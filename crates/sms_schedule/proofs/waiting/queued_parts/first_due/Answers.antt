use Rattle.std.proofs.Common.{◌≡◌, ℕ, suc, ◌+◌, ◌-◌, ◌++◌, length, drop, get_or, sym, ◌∙◌, ap, subst, arith}
use Rattle.std.proofs.Math.Seq.{drop-cons}
use Rattle.sms_centre_rows.specs.declared.waiting.queued_part.QueuedPart.{QueuedPart}
use Rattle.sms_centre_rows.specs.waiting.Waiting.{if_due, next, preceding}
use Rattle.sms_schedule.proofs.waiting.queued_parts.first_due.Goals as goal

pub loop-i-preserved : goal.loop-i-preserved
loop-i-preserved c others behind =
    let now = c.args.now in
    let all_queued = c.args.waiting.now in
    let place : ℕ = length all_queued - 1 - c.loop-i.i in
    let queued : QueuedPart = c.index-waiting-waiting.result in
    let before : place ≡ length all_queued - (c.loop-i.i + 1) = omega arith in
    let after : length all_queued - c.loop-i.i ≡ suc place = omega arith in
    let stood : c.loop-i.first ≡ next now (drop (suc place) all_queued ++ others) =
    subst (λ (n : ℕ). c.loop-i.first ≡ next now (drop n all_queued ++ others)) after (c.loop-i.invariant others behind) in
    c.first_of_both-first.ensures
    ∙ ap (λ (l : QueuedPart). preceding (if_due now l) c.loop-i.first) c.index-waiting-waiting.is
    ∙ ap (λ o. preceding (if_due now (get_or all_queued place queued)) o) stood
    ∙ sym (ap (λ ls. next now (ls ++ others)) (drop-cons all_queued place queued (omega arith)))
    ∙ ap (λ (n : ℕ). next now (drop n all_queued ++ others)) before

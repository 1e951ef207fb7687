use Rattle.std.proofs.Common.{◌≡◌, ℕ, ◌+◌, ◌-◌, Bool, false, sym, ◌∙◌, ap, arith}
use Rattle.sms_centre_rows.specs.waiting.References.{first_passing, is_free}
use Rattle.sms_centre_rows.proofs.waiting.Passing.{passing_later}
use Rattle.sms_centre_queue.proofs.queue.delivery_queue.DeliveryQueue.next_reference.Goals as goal

pub loop-turn-preserved : goal.loop-turn-preserved
loop-turn-preserved c =
    let passes : ℕ → Bool = is_free c.args.row.now c.args.self.now.waiting c.args.self.now.given c.args.now in
    let l = c.loop-turn in
    let not_it : passes l.reference ≡ false = cc in
    let left : 256 - (l.turn + 1) ≡ 256 - l.turn - 1 = omega arith in
    ap (λ (n : ℕ). first_passing passes n c.following-reference-in-loop-turn.result) left
    ∙ ap (λ (r : ℕ). first_passing passes (256 - l.turn - 1) r) c.following-reference-in-loop-turn.ensures
    ∙ sym (passing_later passes (256 - l.turn) l.reference (omega arith) not_it)
    ∙ l.invariant

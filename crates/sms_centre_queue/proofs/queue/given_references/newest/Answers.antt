use Rattle.std.proofs.Common.{◌≡◌, ℕ, suc, ◌-◌, Some, None, length, drop, get_or, ap, sym, subst, ◌∙◌, arith}
use Rattle.sms_centre_rows.specs.declared.waiting.reference.ReferenceRow.{ReferenceRow}
use Rattle.sms_centre_rows.specs.waiting.Keys.{reference_key}
use Rattle.sms_centre_queue.specs.queue.Given.{newest}
use Rattle.sms_centre_queue.proofs.queue.Putting.{newest_at}
use Rattle.sms_centre_queue.proofs.queue.given_references.newest.Goals as goal

pub returns-then-number : goal.returns-then-number
returns-then-number c =
    let rows = c.args.rows.now in
    let place : ℕ = length rows - 1 - c.loop-i.i in
    let row : ReferenceRow = c.index-rows-rows.result in
    let after : length rows - c.loop-i.i ≡ suc place = omega arith in
    let item : row ≡ get_or rows place row = c.index-rows-rows.is in
    let none : newest reference_key c.args.key (drop (suc place) rows) ≡ None = subst (λ (n : ℕ). newest reference_key c.args.key (drop n rows) ≡ None) after c.loop-i.invariant in
    let same : reference_key (get_or rows place row) ≡ c.args.key = cc in
    ap (λ (r : ReferenceRow). Some r) item ∙ sym (newest_at reference_key c.args.key place rows row (omega arith) none same)

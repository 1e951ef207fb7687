use Rattle.std.proofs.Common.{◌≡◌, ℕ, Some, nat_eq, OnOk, subst}
use Rattle.std.specs.Prelude.{if◌then◌else◌}
use Rattle.sms_rows.specs.table.Keys.{digits_key}
use Rattle.sms_centre_queue.specs.declared.queues.placed_queue.PlacedQueue.{PlacedQueue}
use Rattle.sms_centre_queue.specs.queues.Queues.{under}
use Rattle.sms_centre_queue.proofs.queues.recover.restore.Goals as goal

pub returns : goal.returns
returns c =
    let key : c.number.result ≡ digits_key c.args.handset.now.number = cc in
    subst (λ (p : PlacedQueue). OnOk c.insert.result ((k : ℕ) → under k c.insert.new.queues.entries ≡ (if nat_eq k (digits_key c.args.handset.now.number) then Some p else under k c.args.queues.now.entries)))
    c.in_ok-placed.ensures
    (subst (λ (n : ℕ). OnOk c.insert.result ((k : ℕ) → under k c.insert.new.queues.entries ≡ (if nat_eq k n then Some c.in_ok-placed.placed else under k c.args.queues.now.entries)))
    key c.insert.ensures)

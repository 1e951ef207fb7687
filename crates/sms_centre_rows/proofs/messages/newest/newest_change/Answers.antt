use Rattle.std.proofs.Common.{◌≡◌, ℕ, ◌-◌, suc, length, drop, get_or, Some, None, sym, ◌∙◌, ap, subst, arith}
use Rattle.sms_centre_rows.specs.declared.messages.message.MessageRow.{MessageRow}
use Rattle.sms_centre_rows.specs.messages.Messages.{message_key}
use Rattle.sms_rows.specs.declared.table.change.Change.{Change}
use Rattle.sms_rows.specs.table.Table.{change_key, newest_of}
use Rattle.sms_rows.proofs.table.Tables.{newest_at}
use Rattle.sms_centre_rows.proofs.messages.newest.newest_change.Goals as goal

pub returns-then-number : goal.returns-then-number
returns-then-number c =
    let changes = c.args.changes.now in
    let place = length changes - 1 - c.loop-i.i in
    let change = c.index-changes-changes.result in
    let q : length changes - c.loop-i.i ≡ suc place = omega arith in
    let later = subst (λ (n : ℕ). newest_of message_key c.args.key (drop n changes) ≡ None) q c.loop-i.invariant in
    let k = ap (λ (x : Change MessageRow). change_key message_key x) c.index-changes-changes.is in
    let same : change_key message_key (get_or changes place change) ≡ c.args.key = omega (arith, k, c.key.ensures, c.number.ensures, c.number-in-loop-i.ensures, c.if-number.true) in
    let newest = newest_at message_key c.args.key place changes change (omega arith) later same in
    ap (λ (x : Change MessageRow). Some x) c.index-changes-changes.is
    ∙ sym newest

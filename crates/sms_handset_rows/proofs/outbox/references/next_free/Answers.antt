use Rattle.std.proofs.Common.{◌-◌, ◌∙◌, sym, arith}
use Rattle.sms_handset_rows.proofs.outbox.FreeReferences.{free_last}
use Rattle.sms_handset_rows.proofs.outbox.references.next_free.Goals as goal

pub returns : goal.returns
returns c =
    let l = c.loop-turn in
    sym (free_last (256 - l.turn) l.free c.args.held.now (omega arith)) ∙ l.invariant

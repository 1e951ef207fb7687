use Rattle.std.proofs.Common.{arith}
use Rattle.sqlite.specs.State.{HasCleanDisk}
use Rattle.sqlite.specs.Held.{state}
use Rattle.sms_rows.specs.table.Table.{all_applied}
use Rattle.sms_store_sql.proofs.listing.Steps.{ok_then}
use Rattle.sms_store.specs.handset.HandsetRows.{handset_stores}
use Rattle.sms_store.specs.handset.Types.{changes_in, entry_key, last_key, mark_key, out_key}
use Rattle.sms_store.proofs.keeping.Lists.{turns_then}
use Rattle.sms_store.proofs.handset.Turning.{entries_turn, last_turn, marks_turn, outbox_turn}
use Rattle.sms_store.proofs.handset.kept.SetupKept.write.Goals as goal

pub returns-clause-done : goal.returns-clause-done
returns-clause-done g c clean live inside =
    let changes = changes_in c.args.changes.now in
    let at4 : HasCleanDisk (state g.S.Store c.write-4.new.tx.conn.now) = omega (arith, c.write_counters.ensures.survives.clean) in
    let at3 : HasCleanDisk (state g.S.Store c.write-3.new.tx.conn.now) = omega (arith, at4, c.write-4.ensures.survives.clean) in
    let at2 : HasCleanDisk (state g.S.Store c.write-2.new.tx.conn.now) = omega (arith, at3, c.write-3.ensures.survives.clean) in
    let at1 : HasCleanDisk (state g.S.Store c.write.new.tx.conn.now) = omega (arith, at2, c.write-2.ensures.survives.clean) in
    let a1 = rw c.changes.ensures at (c.in_ok-write.ensures.done at1 live inside) in
    let s1 = entries_turn (all_applied entry_key changes.entries) _ _ a1 in
    let a2 = rw c.changes-2.ensures at (c.in_ok-write-2.ensures.done at2 s1.inside.is_open s1.inside.mode) in
    let s2 = turns_then handset_stores _ _ _ _ _ s1 (last_turn (all_applied last_key changes.last) _ _ a2) in
    let a3 = rw c.changes-3.ensures at (c.in_ok-write-3.ensures.done at3 s2.inside.is_open s2.inside.mode) in
    let s3 = turns_then handset_stores _ _ _ _ _ s2 (outbox_turn (all_applied out_key changes.outbox) _ _ a3) in
    let a4 = rw c.changes-4.ensures at (c.in_ok-write-4.ensures.done at4 s3.inside.is_open s3.inside.mode) in
    let s4 = turns_then handset_stores _ _ _ _ _ s3 (marks_turn (all_applied mark_key changes.marks) _ _ a4) in
    ok_then c.write_counters.result (λ h. turns_then handset_stores _ _ _ _ _ s4 h) (c.write_counters.ensures.done clean s4.inside.is_open s4.inside.mode)

use Rattle.std.proofs.Common.{arith}
use Rattle.sqlite.specs.State.{HasCleanDisk}
use Rattle.sqlite.specs.Held.{state}
use Rattle.sms_rows.specs.table.Table.{all_applied}
use Rattle.sms_centre_rows.specs.waiting.Revisions.{all_revised}
use Rattle.sms_store_sql.proofs.listing.Steps.{ok_then}
use Rattle.sms_store.specs.centre.CentreRows.{centre_stores}
use Rattle.sms_store.specs.centre.Types.{bar_key, handset_key, message_key, part_key, part_reaching, priority_key, reference_key, report_key, report_reaching}
use Rattle.sms_store.proofs.keeping.Lists.{turns_then}
use Rattle.sms_store.proofs.centre.Turning.{bars_turn, handsets_turn, messages_turn, parts_turn, priorities_turn, references_turn, reports_turn}
use Rattle.sms_store.proofs.centre.kept.SetupKept.write.Goals as goal

pub returns-clause-done : goal.returns-clause-done
returns-clause-done g c clean live inside =
    let changes = c.args.changes.now in
    let at6 : HasCleanDisk (state g.S.Store c.write-4.new.tx.conn.now) = omega (arith, c.write-5.ensures.survives.clean) in
    let at5 : HasCleanDisk (state g.S.Store c.write_revisions-2.new.tx.conn.now) = omega (arith, at6, c.write-4.ensures.survives.clean) in
    let at4 : HasCleanDisk (state g.S.Store c.write-3.new.tx.conn.now) = omega (arith, at5, c.write_revisions-2.ensures.survives.clean) in
    let at3 : HasCleanDisk (state g.S.Store c.write-2.new.tx.conn.now) = omega (arith, at4, c.write-3.ensures.survives.clean) in
    let at2 : HasCleanDisk (state g.S.Store c.write_revisions.new.tx.conn.now) = omega (arith, at3, c.write-2.ensures.survives.clean) in
    let at1 : HasCleanDisk (state g.S.Store c.write.new.tx.conn.now) = omega (arith, at2, c.write_revisions.ensures.survives.clean) in
    let a1 = rw c.as_slice.ensures at (c.in_ok-write.ensures.done at1 live inside) in
    let s1 = messages_turn (all_applied message_key changes.messages) _ _ a1 in
    let a2 = rw c.as_slice-2.ensures at (c.in_ok-write_revisions.ensures.done at2 s1.inside.is_open s1.inside.mode) in
    let s2 = turns_then centre_stores _ _ _ _ _ s1 (parts_turn (all_revised part_key part_reaching changes.parts) _ _ a2) in
    let a3 = rw c.as_slice-3.ensures at (c.in_ok-write-2.ensures.done at3 s2.inside.is_open s2.inside.mode) in
    let s3 = turns_then centre_stores _ _ _ _ _ s2 (references_turn (all_applied reference_key changes.references) _ _ a3) in
    let a4 = rw c.as_slice-4.ensures at (c.in_ok-write-3.ensures.done at4 s3.inside.is_open s3.inside.mode) in
    let s4 = turns_then centre_stores _ _ _ _ _ s3 (handsets_turn (all_applied handset_key changes.handsets) _ _ a4) in
    let a5 = rw c.as_slice-5.ensures at (c.in_ok-write_revisions-2.ensures.done at5 s4.inside.is_open s4.inside.mode) in
    let s5 = turns_then centre_stores _ _ _ _ _ s4 (reports_turn (all_revised report_key report_reaching changes.reports) _ _ a5) in
    let a6 = rw c.as_slice-6.ensures at (c.in_ok-write-4.ensures.done at6 s5.inside.is_open s5.inside.mode) in
    let s6 = turns_then centre_stores _ _ _ _ _ s5 (priorities_turn (all_applied priority_key changes.priorities) _ _ a6) in
    ok_then c.write-5.result (λ h. turns_then centre_stores _ _ _ _ _ s6 (bars_turn (all_applied bar_key changes.bars) _ _ h))
    (rw c.as_slice-7.ensures at (c.write-5.ensures.done clean s6.inside.is_open s6.inside.mode))

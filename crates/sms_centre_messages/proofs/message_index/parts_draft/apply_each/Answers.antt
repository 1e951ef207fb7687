use Rattle.std.proofs.Common.{arith, ◌≡◌, List, ◌∷◌, sym, ◌∙◌, ap, length}
use Rattle.std.specs.Vec.Iter.{into_iter_items}
use Rattle.sms_rows.specs.declared.table.change.Change.{Change}
use Rattle.sms_rows.specs.table.Table.{all_applied}
use Rattle.sms_rows.proofs.table.Tables.{length_applied}
use Rattle.sms_centre_rows.specs.declared.messages.parts.PartEntry.{PartEntry}
use Rattle.sms_centre_rows.specs.messages.PartEntries.{entry_key}
use Rattle.sms_centre_messages.proofs.message_index.parts_draft.apply_each.Goals as goal

pub loop-change-preserved : goal.loop-change-preserved
loop-change-preserved c =
    let rest = into_iter_items c.next.new.self in
    let step : into_iter_items c.loop-change.change-iterator ≡ c.in-Some.change ∷ rest = c.in-Some.ensures.steps.0 in
    let count = ap (λ (l : List (Change PartEntry)). length l) step in
    let size = ap (λ (l : List PartEntry). length l) c.apply.ensures.rows in
    record {
      can_next = tt;
      is_finite = tt;
      room = omega (arith, c.apply.ensures.capacity, count, size, length_applied entry_key c.in-Some.change c.loop-change.table.rows, c.loop-change.invariant.room);
      rows =
          ap (λ (l : List PartEntry). all_applied entry_key rest l) c.apply.ensures.rows
          ∙ ap (λ (l : List (Change PartEntry)). all_applied entry_key l c.loop-change.table.rows) (sym step) ∙ c.loop-change.invariant.rows;
    }

use Rattle.std.proofs.Common.{◌≡◌, List, map, sym, ◌∙◌, ap, subst}
use Rattle.sms_rows.specs.declared.table.change.Change.{Change}
use Rattle.sms_rows.specs.table.Table.{AreRemovals, RowsInMemory, change_key, without_all}
use Rattle.sms_rows.proofs.table.Removals.{applied_removals}
use Rattle.sms_centre_rows.specs.declared.messages.parts.PartEntry.{PartEntry}
use Rattle.sms_centre_rows.specs.messages.PartEntries.{entry_key}
use Rattle.sms_centre_messages.proofs.message_index.parts_draft.apply_all.Goals as goal

pub returns-then-are_removals : goal.returns-then-are_removals
returns-then-are_removals c =
    let changes = c.args.changes.items in
    let rows = c.args.table.now.rows in
    let only : AreRemovals changes = subst (λ (l : List (Change PartEntry)). AreRemovals l) c.as_slice.ensures.value (sym c.are_removals.ensures ∙ c.if-are_removals.true) in
    ap (λ (t : RowsInMemory PartEntry). t.rows) c.remove_all.ensures
    ∙ ap (λ (l : List (Change PartEntry)). without_all entry_key (map (λ (x : Change PartEntry). change_key entry_key x) l) rows) c.as_slice-then-are_removals.ensures.value
    ∙ sym (applied_removals entry_key changes rows only)

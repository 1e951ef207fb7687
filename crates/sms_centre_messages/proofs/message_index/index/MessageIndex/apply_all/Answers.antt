use Rattle.std.proofs.Common.{◌≡◌, List, map, sym, ◌∙◌, ap, subst}
use Rattle.sms_rows.specs.declared.table.change.Change.{Change}
use Rattle.sms_rows.specs.table.Table.{AreRemovals, RowsInMemory, all_applied, change_key, without_all}
use Rattle.sms_centre_rows.specs.declared.messages.message.MessageRow.{MessageRow}
use Rattle.sms_centre_rows.specs.messages.Messages.{message_key}
use Rattle.sms_centre_messages.specs.declared.message_index.message_entry.MessageEntry.{MessageEntry}
use Rattle.sms_centre_messages.specs.message_index.Entries.{message_entry_key}
use Rattle.sms_centre_messages.specs.message_index.MessageIndex.{MessageIndexOf, Represents}
use Rattle.sms_centre_messages.proofs.message_index.Passing.{passed}
use Rattle.sms_centre_messages.proofs.message_index.index.MessageIndex.apply_all.Goals as goal

pub returns-then-are_removals : goal.returns-then-are_removals
returns-then-are_removals c = λ ms ps h.
    let was : MessageIndexOf = record { names = c.self.inside.names; messages = c.self.inside.messages; parts = c.self.inside.parts; deadlines = c.self.inside.deadlines } in
    let changes = c.args.changes.items in
    let only : AreRemovals changes = subst (λ (l : List (Change MessageRow)). AreRemovals l) c.as_slice.ensures.value (sym c.are_removals.ensures ∙ c.if-are_removals.true) in
    subst (λ (t : RowsInMemory MessageEntry). Represents (record was { messages = t }) (all_applied message_key changes ms) ps)
    (sym (c.remove_all.ensures ∙ ap (λ (l : List (Change MessageRow)). record c.self.inside.messages { rows = without_all message_entry_key (map (λ (x : Change MessageRow). change_key message_key x) l) c.self.inside.messages.rows }) c.as_slice-then-are_removals.ensures.value))
    (passed changes was ms ps only (subst (λ (k : MessageIndexOf). Represents k ms ps) (sym c.self.view_is) h))

use Rattle.std.proofs.Common.{ℕ, Option, sym, ◌∙◌, ap}
use Rattle.sms_centre_rows.specs.declared.messages.parts.PartEntry.{PartEntry}
use Rattle.sms_centre_rows.specs.messages.PartEntries.{PartsOf, entry_key, rows_now}
use Rattle.sms_rows.specs.declared.table.change.Change.{Change}
use Rattle.sms_rows.specs.table.Keys.{pair_key}
use Rattle.sms_rows.specs.table.Table.{all_applied, left_by, row_at}
use Rattle.sms_rows.proofs.table.Tables.{row_at_all_applied}
use Rattle.sms_centre_messages.proofs.message_index.parts_draft.PartsDraft.find.Goals as goal

pub returns-in-Some : goal.returns-in-Some
returns-in-Some c =
    c.copied.ensures ∙ c.row.ensures
    ∙ ap (λ (o : Option (Change PartEntry)). left_by o (row_at entry_key c.pair-key.result c.self.inside.base.now.rows)) c.in-Some.ensures
    ∙ sym (row_at_all_applied entry_key c.pair-key.result c.self.inside.entries c.self.inside.base.now.rows)
    ∙ ap (λ (n : ℕ). row_at entry_key n (all_applied entry_key c.self.inside.entries c.self.inside.base.now.rows)) (c.pair-key.ensures ∙ ap (λ (n : ℕ). pair_key n c.args.number) c.number.ensures.value)
    ∙ ap (λ (p : PartsOf). row_at entry_key (pair_key c.args.id c.args.number) (rows_now p)) c.self.view_is

pub returns-in-None : goal.returns-in-None
returns-in-None c =
    c.copied-in-None.ensures ∙ c.find.ensures
    ∙ ap (λ (o : Option (Change PartEntry)). left_by o (row_at entry_key c.pair-key.result c.self.inside.base.now.rows)) c.in-None.ensures
    ∙ sym (row_at_all_applied entry_key c.pair-key.result c.self.inside.entries c.self.inside.base.now.rows)
    ∙ ap (λ (n : ℕ). row_at entry_key n (all_applied entry_key c.self.inside.entries c.self.inside.base.now.rows)) (c.pair-key.ensures ∙ ap (λ (n : ℕ). pair_key n c.args.number) c.number.ensures.value)
    ∙ ap (λ (p : PartsOf). row_at entry_key (pair_key c.args.id c.args.number) (rows_now p)) c.self.view_is

use Rattle.std.proofs.Common.{ℕ, sym, ◌∙◌, ap, Option, option_copied, Bor}
use Rattle.sms_rows.specs.table.Table.{row_at}
use Rattle.sms_handset_rows.specs.declared.inbox.entry.Entry.{Entry}
use Rattle.sms_handset_rows.specs.inbox.Keys.{entry_key}
use Rattle.sms_handset_draft.specs.Draft.{HandsetOf, draft_of}
use Rattle.sms_handset.proofs.Judging.{deletes_in}
use Rattle.sms_handset.proofs.handset.Handset.refuses_delete.Goals as goal

pub returns : goal.returns
returns c =
    deletes_in c.args.number (row_at entry_key c.args.number c.args.self.now.core.rows.entries) c.in-Some.entry.now (draft_of c.args.self.now.core)
    (sym (ap (λ (s : HandsetOf). row_at entry_key c.args.number s.core.rows.entries) c.self.view_is) ∙ ap (λ (n : ℕ). row_at entry_key n c.self.inside.stored.entries.rows) (sym (c.of.ensures ∙ c.from.ensures)) ∙ sym c.find.ensures
    ∙ ap (λ (r : Option (Bor Entry)). option_copied r) c.in-Some.is)
    (sym c.is_open_part.ensures ∙ c.if-is_open_part.false)

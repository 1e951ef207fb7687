use Rattle.std.proofs.Common.{ℕ, sym, ◌∙◌, ap, Option, option_copied, Bor}
use Rattle.sms_rows.specs.table.Table.{row_at}
use Rattle.sms_handset_rows.specs.declared.outbox.out_entry.OutEntry.{OutEntry}
use Rattle.sms_handset_rows.specs.outbox.Keys.{out_key}
use Rattle.sms_handset_draft.specs.Draft.{HandsetOf, draft_of}
use Rattle.sms_handset.proofs.Judging.{deletes_out}
use Rattle.sms_handset.proofs.handset.Handset.refuses_delete_out.Goals as goal

pub returns : goal.returns
returns c =
    deletes_out c.args.number (row_at out_key c.args.number c.args.self.now.core.rows.outbox) c.in-Some.entry.now (draft_of c.args.self.now.core)
    (sym (ap (λ (s : HandsetOf). row_at out_key c.args.number s.core.rows.outbox) c.self.view_is) ∙ ap (λ (n : ℕ). row_at out_key n c.self.inside.stored.outbox.rows) (sym (c.of.ensures ∙ c.from.ensures)) ∙ sym c.find.ensures
    ∙ ap (λ (r : Option (Bor OutEntry)). option_copied r) c.in-Some.is)
    (sym c.is_unfinished.ensures ∙ c.if-is_unfinished.false)

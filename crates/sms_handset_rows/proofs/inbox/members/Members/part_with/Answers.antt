use Rattle.std.proofs.Common.{ℕ, List, Option, sym, ◌∙◌, ap}
use Rattle.sms_rows.specs.table.Table.{row_at}
use Rattle.sms_handset_rows.specs.inbox.Keys.{entry_key}
use Rattle.sms_handset_rows.specs.declared.inbox.entry.Entry.{Entry}
use Rattle.sms_handset_rows.specs.inbox.Groups.{part_with}
use Rattle.sms_handset_rows.proofs.inbox.PartsFound.{row_of, with_is}
use Rattle.sms_handset_rows.proofs.inbox.members.Members.part_with.Goals as goal

pub returns-in-Some : goal.returns-in-Some
returns-in-Some c =
    let rows = c.self.inside.entries.now.rows in
    c.find.ensures ∙ ap (λ (n : ℕ). row_at entry_key n rows) (c.of.ensures ∙ c.from.ensures) ∙ ap (λ (o : Option ℕ). row_of o rows) (sym c.in-Some.is ∙ c.entry_with.ensures)
    ∙ with_is c.args.number c.self.inside.parts.now rows c.self.invariant.0 ∙ ap (λ (es : List Entry). part_with c.args.number es) c.self.view_is

pub returns-in-None : goal.returns-in-None
returns-in-None c =
    let rows = c.self.inside.entries.now.rows in
    ap (λ (o : Option ℕ). row_of o rows) (sym c.in-None.is ∙ c.entry_with.ensures)
    ∙ with_is c.args.number c.self.inside.parts.now rows c.self.invariant.0 ∙ ap (λ (es : List Entry). part_with c.args.number es) c.self.view_is

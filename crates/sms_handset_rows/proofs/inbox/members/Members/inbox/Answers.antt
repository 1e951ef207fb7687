use Rattle.std.proofs.Common.{List, sym, ◌∙◌, ap}
use Rattle.sms_handset_rows.specs.declared.inbox.entry.Entry.{Entry}
use Rattle.sms_handset_rows.specs.declared.inbox.open_group.StoredPart.{StoredPart}
use Rattle.sms_handset_rows.specs.inbox.OpenGroups.{entries_of, stored_parts}
use Rattle.sms_handset_rows.proofs.inbox.PartsFound.{stored_again}
use Rattle.sms_handset_rows.proofs.inbox.members.Members.inbox.Goals as goal

pub returns : goal.returns
returns c =
    let rows = c.self.inside.entries.now.rows in
    ap (λ (es : List Entry). entries_of (stored_parts es) rows) (sym c.self.view_is)
    ∙ ap (λ (ps : List StoredPart). entries_of ps rows) (stored_again c.self.inside.parts.now rows c.self.invariant.0)
    ∙ c.self.view_is

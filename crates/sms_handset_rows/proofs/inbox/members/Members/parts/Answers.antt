use Rattle.std.proofs.Common.{List, sym, ◌∙◌, ap}
use Rattle.sms_handset_rows.specs.declared.inbox.entry.Entry.{Entry}
use Rattle.sms_handset_rows.specs.inbox.OpenGroups.{stored_parts}
use Rattle.sms_handset_rows.proofs.inbox.PartsFound.{stored_again}
use Rattle.sms_handset_rows.proofs.inbox.members.Members.parts.Goals as goal

pub returns : goal.returns
returns c =
    sym (stored_again c.self.inside.parts.now c.self.inside.entries.now.rows c.self.invariant.0)
    ∙ ap (λ (es : List Entry). stored_parts es) c.self.view_is

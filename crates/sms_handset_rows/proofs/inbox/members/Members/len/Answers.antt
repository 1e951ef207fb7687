use Rattle.std.proofs.Common.{List, length, ◌∙◌, ap}
use Rattle.sms_handset_rows.specs.declared.inbox.entry.Entry.{Entry}
use Rattle.sms_handset_rows.proofs.inbox.PartsFound.{length_is}
use Rattle.sms_handset_rows.proofs.inbox.members.Members.len.Goals as goal

pub returns : goal.returns
returns c = length_is c.self.inside.parts.now c.self.inside.entries.now.rows c.self.invariant.0 ∙ ap (λ (es : List Entry). length es) c.self.view_is

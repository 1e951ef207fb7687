use Rattle.std.proofs.Common.{List, ◌++◌, ◌∷◌, [], ◌∙◌, ap}
use Rattle.sms_handset_rows.specs.declared.inbox.entry.Entry.{Entry}
use Rattle.sms_handset_rows.specs.inbox.Groups.{first_number}
use Rattle.sms_handset_rows.proofs.inbox.PartsFound.{first_is}
use Rattle.sms_handset_rows.proofs.inbox.members.Members.first_number.Goals as goal

pub returns : goal.returns
returns c e q =
    c.first_entry.ensures ∙ first_is c.self.inside.parts.now c.self.inside.entries.now.rows c.args.number e c.self.invariant.0 q
    ∙ ap (λ (es : List Entry). first_number (es ++ e ∷ [])) c.self.view_is

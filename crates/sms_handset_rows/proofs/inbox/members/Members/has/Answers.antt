use Rattle.std.proofs.Common.{ℕ, List, ◌∙◌, ap}
use Rattle.sms_handset_rows.specs.declared.inbox.entry.Entry.{Entry}
use Rattle.sms_handset_rows.specs.inbox.Groups.{is_among, part_numbers}
use Rattle.sms_handset_rows.proofs.inbox.PartsFound.{numbers_are}
use Rattle.sms_handset_rows.proofs.inbox.members.Members.has.Goals as goal

pub returns : goal.returns
returns c =
    c.has_number.ensures ∙ ap (λ (ns : List ℕ). is_among c.args.number ns) (numbers_are c.self.inside.parts.now c.self.inside.entries.now.rows c.self.invariant.0)
    ∙ ap (λ (es : List Entry). is_among c.args.number (part_numbers es)) c.self.view_is

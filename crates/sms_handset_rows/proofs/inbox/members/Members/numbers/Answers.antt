use Rattle.std.proofs.Common.{◌≡◌, ℕ, List, IfOk, ◌∙◌, ap, subst}
use Rattle.sms_handset_rows.specs.declared.inbox.entry.Entry.{Entry}
use Rattle.sms_handset_rows.specs.inbox.Groups.{part_numbers}
use Rattle.sms_handset_rows.proofs.inbox.PartsFound.{numbers_are}
use Rattle.sms_handset_rows.proofs.inbox.members.Members.numbers.Goals as goal

pub returns : goal.returns
returns c =
    subst (λ (ns : List ℕ). IfOk c.numbers_of.result (λ numbers. numbers ≡ ns))
    (numbers_are c.self.inside.parts.now c.self.inside.entries.now.rows c.self.invariant.0 ∙ ap (λ (es : List Entry). part_numbers es) c.self.view_is)
    c.numbers_of.ensures

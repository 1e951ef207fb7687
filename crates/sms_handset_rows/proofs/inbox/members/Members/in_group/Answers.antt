use Rattle.std.proofs.Common.{List, sym, ◌∙◌, ap, subst}
use Rattle.sms_handset_rows.specs.declared.inbox.open_group.StoredPart.{StoredPart}
use Rattle.sms_handset_rows.specs.inbox.OpenGroups.{AreFound, entries_of}
use Rattle.sms_handset_rows.proofs.inbox.PartsFound.{members_again, members_found}
use Rattle.sms_handset_rows.proofs.inbox.members.Members.in_group.Goals as goal

pub invariant_of-result : goal.invariant_of-result
invariant_of-result c =
    let rows = c.args.entries.now.rows in
    (subst (λ (ps : List StoredPart). AreFound ps rows) (sym (c.as_slice.ensures ∙ c.requires)) (members_found c.args.there.now.group rows c.as_slice-in_order.ensures.order), tt)

pub returns : goal.returns
returns c =
    let rows = c.args.entries.now.rows in
    ap (λ (ps : List StoredPart). entries_of ps rows) (c.as_slice.ensures ∙ c.requires) ∙ members_again c.args.there.now.group rows c.as_slice-in_order.ensures.order

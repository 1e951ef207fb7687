use Rattle.std.proofs.Common.{List, sym, ◌∙◌, ap, subst}
use Rattle.sms_handset_rows.specs.declared.inbox.entry.Entry.{Entry}
use Rattle.sms_handset_rows.specs.declared.inbox.open_group.OpenGroup.{OpenGroup}
use Rattle.sms_handset_rows.specs.declared.inbox.open_group.StoredPart.{StoredPart}
use Rattle.std.specs.Prelude.{Option}
use Rattle.sms_handset_rows.specs.inbox.OpenGroups.{AreFound, HasTaken, entries_of}
use Rattle.sms_handset_rows.specs.inbox.OpenIndex.{find_open, parts_of}
use Rattle.sms_handset_rows.proofs.inbox.FindingGroups.{has_taken, parts_are}
use Rattle.sms_handset_rows.proofs.inbox.PartsFound.{members_again, members_found}
use Rattle.sms_handset_rows.proofs.inbox.members.Members.of.Goals as goal

pub invariant_of-result : goal.invariant_of-result
invariant_of-result c =
    let rows = c.args.entries.now.rows in
    let group = c.args.group.now in
    let order = c.as_slice-in_order.ensures.order in
    let parts = c.parts_of.ensures ∙ ap (λ (o : Option OpenGroup). parts_of o) c.find-found.ensures.found ∙ parts_are group c.args.groups.now rows order c.requires c.find-found.ensures.unique in (
      subst (λ (ps : List StoredPart). AreFound ps rows) (sym parts) (members_found group rows order),
      subst (λ (o : Option OpenGroup). HasTaken o (entries_of c.parts_of.result.now rows)) (sym c.find-found.ensures.found)
          (subst (λ (es : List Entry). HasTaken (find_open group c.args.groups.now.groups) es) (sym (ap (λ (ps : List StoredPart). entries_of ps rows) parts ∙ members_again group rows order))
          (has_taken group c.args.groups.now rows order c.requires c.find-found.ensures.unique)),
    )

pub returns : goal.returns
returns c =
    let rows = c.args.entries.now.rows in
    let group = c.args.group.now in
    let order = c.as_slice-in_order.ensures.order in
    ap (λ (ps : List StoredPart). entries_of ps rows)
    (c.parts_of.ensures ∙ ap (λ (o : Option OpenGroup). parts_of o) c.find-found.ensures.found ∙ parts_are group c.args.groups.now rows order c.requires c.find-found.ensures.unique)
    ∙ members_again group rows order

use Rattle.std.proofs.Common.{List, ◌++◌, ◌∙◌, ap}
use Rattle.sms_handset_rows.specs.declared.inbox.entry.Entry.{Entry}
use Rattle.sms_handset_rows.specs.declared.inbox.open_group.StoredPart.{StoredPart}
use Rattle.sms_handset_rows.specs.inbox.OpenGroups.{entries_of}
use Rattle.sms_handset_rows.proofs.inbox.PartsFound.{done}
use Rattle.sms_handset_draft.specs.Draft.{Draft}
use Rattle.sms_handset_draft.specs.Storing.{free_all}
use Rattle.sms_handset_draft.proofs.PartMoves.{frees}
use Rattle.sms_handset_draft.proofs.draft.Draft.free_members.Goals as goal

pub returns : goal.returns
returns c =
    let rows = c.inbox.result.now.rows in
    done c.free_parts.result _ _
    (λ e rest.
    ap (λ (d : Draft). free_all rest d) e ∙ frees c.parts.result.now rows rest c.args.self.now
    ∙ ap (λ (es : List Entry). free_all (es ++ rest) c.args.self.now)
    (ap (λ (ps : List StoredPart). entries_of ps rows) c.parts.ensures ∙ c.inbox.ensures))
    c.free_parts.ensures

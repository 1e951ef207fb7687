use Rattle.std.proofs.Common.{◌≡◌, List, OnOk, ◌∙◌, ap, subst}
use Rattle.sms_handset_rows.specs.declared.inbox.open_group.StoredPart.{StoredPart}
use Rattle.sms_handset_rows.proofs.inbox.PartsFound.{done}
use Rattle.sms_handset_draft.specs.Draft.{Draft}
use Rattle.sms_handset_draft.specs.Storing.{drop_all, drop_parts}
use Rattle.sms_handset_draft.proofs.PartMoves.{drop_more, drops}
use Rattle.sms_handset_draft.proofs.draft.Draft.drop_members.Goals as goal

pub returns-clause-all : goal.returns-clause-all
returns-clause-all c =
    subst (λ (d : Draft). OnOk c.drop_parts.result (c.drop_parts.new.self ≡ d))
    (ap (λ (ps : List StoredPart). drop_parts ps c.args.self.now) c.parts.ensures ∙ drops c.args.members.now c.args.self.now)
    c.drop_parts.ensures

pub returns-clause-first : goal.returns-clause-first
returns-clause-first c =
    done c.drop_parts.result _ _
    (λ e rest.
    ap (λ (d : Draft). drop_all rest d) (e ∙ ap (λ (ps : List StoredPart). drop_parts ps c.args.self.now) c.parts.ensures ∙ drops c.args.members.now c.args.self.now)
    ∙ drop_more c.args.members.now rest c.args.self.now)
    c.drop_parts.ensures

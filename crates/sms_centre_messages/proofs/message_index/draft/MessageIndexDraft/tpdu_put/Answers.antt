use Rattle.std.proofs.Common.{sym, ◌∙◌, subst}
use Rattle.sms_rows.specs.table.Keys.{pair_key}
use Rattle.sms_centre_messages.specs.message_index.MessageIndex.{MessageIndexDraftOf, DraftRepresents}
use Rattle.sms_centre_messages.proofs.message_index.PutPlaces.{tpdu_of_news}
use Rattle.sms_centre_messages.proofs.message_index.draft.MessageIndexDraft.tpdu_put.Goals as goal

pub returns : goal.returns
returns c = λ m s.
    c.tpdu_put.ensures
    ∙ tpdu_of_news (pair_key c.args.id c.args.number) c.self.inside.parts.changes m.parts.news (subst (λ (p : MessageIndexDraftOf). DraftRepresents p m) (sym c.self.view_is) s).parts.changes

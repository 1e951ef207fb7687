use Rattle.std.proofs.Common.{sym, ◌∙◌, subst}
use Rattle.sms_rows.specs.table.Keys.{pair_key}
use Rattle.sms_centre_messages.specs.message_index.MessageIndex.{MessageIndexDraftOf, DraftRepresents}
use Rattle.sms_centre_rows.proofs.messages.Entries.{found_decides}
use Rattle.sms_centre_messages.proofs.message_index.draft.MessageIndexDraft.find_part.Goals as goal

pub returns : goal.returns
returns c = λ m s. c.find.ensures ∙ found_decides c.self.inside.parts m.parts (pair_key c.args.id c.args.number) (subst (λ (p : MessageIndexDraftOf). DraftRepresents p m) (sym c.self.view_is) s).parts

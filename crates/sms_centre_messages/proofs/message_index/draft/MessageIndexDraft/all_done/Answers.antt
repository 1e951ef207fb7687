use Rattle.std.proofs.Common.{List, sym, ◌∙◌, ap, subst}
use Rattle.sms_centre_rows.specs.declared.messages.parts.PartEntry.{PartEntry}
use Rattle.sms_centre_rows.specs.messages.Messages.{parts_of}
use Rattle.sms_centre_rows.specs.messages.PartEntries.{done_to}
use Rattle.sms_centre_messages.specs.message_index.MessageIndex.{MessageIndexDraftOf, DraftRepresents}
use Rattle.sms_centre_rows.proofs.messages.Entries.{done_alike}
use Rattle.sms_centre_messages.proofs.message_index.draft.MessageIndexDraft.all_done.Goals as goal

pub returns : goal.returns
returns c = λ m s few.
    c.all_done.ensures ∙ ap (λ (es : List PartEntry). done_to c.args.id 20 es) (subst (λ (p : MessageIndexDraftOf). DraftRepresents p m) (sym c.self.view_is) s).parts.entries ∙ done_alike c.args.id (parts_of m) few

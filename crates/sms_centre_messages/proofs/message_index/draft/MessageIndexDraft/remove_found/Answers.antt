use Rattle.sms_centre_messages.specs.message_index.MessageIndex.{DraftRepresents}
use Rattle.sms_centre_spec.specs.forgetting.Forget.{part_out, without_part}
use Rattle.sms_centre_rows.specs.messages.PartEntries.{entry_key}
use Rattle.sms_centre_messages.proofs.message_index.Removals.{on_ok_map, part_absent, part_taken}
use Rattle.sms_centre_messages.proofs.message_index.draft.MessageIndexDraft.remove_found.Goals as goal

pub returns-in-Some : goal.returns-in-Some
returns-in-Some c = λ m s.
    on_ok_map c.remove_part.result (DraftRepresents c.remove_part.new.self (without_part (entry_key c.in-Some.entry) m)) (DraftRepresents c.remove_part.new.self (part_out c.args.id c.args.number m))
    (λ h. part_taken c.args.id c.args.number c.in-Some.entry c.remove_part.new.self m (c.in-Some.ensures m s) h) (c.remove_part.ensures m s)

pub returns-in-None : goal.returns-in-None
returns-in-None c = λ m s. part_absent c.args.id c.args.number c.args.self.now m (c.in-None.ensures m s) s

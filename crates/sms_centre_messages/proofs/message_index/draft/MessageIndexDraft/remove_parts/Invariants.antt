use Rattle.sms_centre_rows.specs.messages.Messages.{Messages}
use Rattle.sms_centre_messages.specs.message_index.MessageIndex.{DraftRepresents}
use Rattle.sms_centre_spec.specs.forgetting.Forget.{parts_out}
use Rattle.sms_centre_messages.proofs.message_index.draft.MessageIndexDraft.remove_parts.Given as goal

abbrev pub invariant-loop-behind : goal.invariant-loop-behind
invariant-loop-behind l = (m : Messages) → DraftRepresents l.initial.self m → DraftRepresents l.self (parts_out l.id l.behind m)

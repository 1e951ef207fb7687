use Rattle.sms_centre_spec.specs.forgetting.Forget.{parts_out}
use Rattle.sms_centre_messages.proofs.message_index.Removals.{parts_first, parts_more}
use Rattle.sms_centre_messages.proofs.message_index.draft.MessageIndexDraft.remove_parts.Goals as goal

pub loop-behind-init : goal.loop-behind-init
loop-behind-init c = λ m s. parts_first c.args.id c.args.self.now m s

pub loop-behind-preserved : goal.loop-behind-preserved
loop-behind-preserved c = λ m s.
    parts_more c.args.id c.loop-behind.behind c.remove_found.new.self m (c.in_ok-remove_found.ensures (parts_out c.args.id c.loop-behind.behind m) (c.loop-behind.invariant m s))

use Rattle.sms_centre_spec.proofs.conditions.MessagesTested.{messages_from, messages_to}
use Rattle.sms_centre_spec.proofs.conditions.laws.messages_are_tested.Goals as goal

pub returns : goal.returns
returns c messages parts priorities a b d = (λ pass. messages_from messages parts priorities a b d pass, λ sound. messages_to messages parts priorities sound)

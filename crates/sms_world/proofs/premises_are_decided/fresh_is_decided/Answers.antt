use Rattle.sms_world.proofs.premises_are_decided.FreshRounds.{alike_decided, begins_decided, fresh_decided}
use Rattle.sms_world.proofs.premises_are_decided.fresh_is_decided.Goals as goal

pub returns : goal.returns
returns c = record { begins = begins_decided; parts = fresh_decided; alike = alike_decided }

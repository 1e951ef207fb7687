use Rattle.sms_centre_messages.proofs.message_index.PastOnes.{all_confirmed, each_past}
use Rattle.sms_centre_messages.proofs.message_index.laws.the_index_finds_expired_messages.Goals as goal

pub returns-clause-steps : goal.returns-clause-steps
returns-clause-steps g c = λ step now ms s keys. each_past step now ms s keys

pub returns-clause-numbers : goal.returns-clause-numbers
returns-clause-numbers g c = λ now ms numbers keys order covers. all_confirmed now ms numbers keys order covers

use Rattle.sms_centre_draft.proofs.walks.EndsFound.{ends_found}
use Rattle.sms_centre_draft.proofs.walks.laws.messages_expire_by_numbers.Goals as goal

pub returns : goal.returns
returns c = ends_found

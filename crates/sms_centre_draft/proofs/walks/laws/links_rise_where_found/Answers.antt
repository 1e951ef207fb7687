use Rattle.sms_centre_draft.proofs.walks.RaisesFound.{raises_found}
use Rattle.sms_centre_draft.proofs.walks.laws.links_rise_where_found.Goals as goal

pub returns : goal.returns
returns c = raises_found

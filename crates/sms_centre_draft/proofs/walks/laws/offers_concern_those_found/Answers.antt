use Rattle.sms_centre_draft.proofs.walks.OffersFound.{offers_found}
use Rattle.sms_centre_draft.proofs.walks.laws.offers_concern_those_found.Goals as goal

pub returns : goal.returns
returns c = offers_found

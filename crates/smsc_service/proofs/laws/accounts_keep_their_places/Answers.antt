use Rattle.smsc_service.proofs.AccountsCome.{account_comes, accounts_stay}
use Rattle.smsc_service.proofs.laws.accounts_keep_their_places.Goals as goal

pub returns : goal.returns
returns c =
    record {
      comes = account_comes;
      places = accounts_stay;
    }

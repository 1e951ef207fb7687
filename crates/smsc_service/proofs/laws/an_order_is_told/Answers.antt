use Rattle.smsc_service.proofs.OrdersTold.{order_told, outcome_kept}
use Rattle.smsc_service.proofs.laws.an_order_is_told.Goals as goal

pub returns : goal.returns
returns c =
    record {
      told = order_told;
      kept = outcome_kept;
    }

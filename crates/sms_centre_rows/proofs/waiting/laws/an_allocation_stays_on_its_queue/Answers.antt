use Rattle.sms_centre_rows.proofs.waiting.Showing.{give_own, give_other}
use Rattle.sms_centre_rows.proofs.waiting.laws.an_allocation_stays_on_its_queue.Goals as goal

pub returns : goal.returns
returns c = record { own = give_own; others = give_other }

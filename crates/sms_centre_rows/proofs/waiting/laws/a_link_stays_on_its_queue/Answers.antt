use Rattle.sms_centre_rows.proofs.waiting.Showing.{link_own, link_other}
use Rattle.sms_centre_rows.proofs.waiting.laws.a_link_stays_on_its_queue.Goals as goal

pub returns : goal.returns
returns c = record { own = link_own; others = link_other }

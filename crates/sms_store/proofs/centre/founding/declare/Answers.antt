use Rattle.sms_store_sql.proofs.listing.Steps.{ok_then}
use Rattle.sms_store.proofs.centre.TablesMade.{declared}
use Rattle.sms_store.proofs.centre.founding.declare.Goals as goal

pub returns-clause-done : goal.returns-clause-done
returns-clause-done g c clean live inside =
    ok_then c.put.result (λ h. record { inside = h.inside; changed = declared _ _ h }) (c.put.ensures.done clean live inside)

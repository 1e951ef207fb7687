use Rattle.sms_store_sql.proofs.listing.Steps.{ok_then}
use Rattle.sms_store_migration.proofs.Raising.{ranks}
use Rattle.sms_store_migration.proofs.migrating.rank_messages.Goals as goal

pub returns-clause-done : goal.returns-clause-done
returns-clause-done g c clean live inside = ok_then c.run.result (λ h. record { inside = h.inside; changed = ranks _ _ h }) (c.run.ensures.done clean live inside)

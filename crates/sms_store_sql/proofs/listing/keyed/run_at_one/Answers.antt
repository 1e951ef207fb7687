use Rattle.sms_store_sql.proofs.listing.keyed.run_at_one.Goals as goal

pub returns-clause-done : goal.returns-clause-done
returns-clause-done g c clean live inside = rw (c.params-to_sql.ensures, c.in_ok-value.ensures.value) at (c.run.ensures.done clean live inside)

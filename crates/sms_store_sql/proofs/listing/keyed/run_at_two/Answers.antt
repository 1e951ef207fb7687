use Rattle.sms_store_sql.proofs.listing.keyed.run_at_two.Goals as goal

pub returns-clause-done : goal.returns-clause-done
returns-clause-done g c clean live inside =
    rw (c.params-to_sql.ensures, c.params-to_sql-2.ensures, c.in_ok-pair.ensures.value.0, c.in_ok-pair.ensures.value.1) at (c.run.ensures.done clean live inside)

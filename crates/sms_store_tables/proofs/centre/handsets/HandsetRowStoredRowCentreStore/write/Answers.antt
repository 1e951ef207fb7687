use Rattle.sms_store_tables.proofs.centre.handsets.HandsetRowStoredRowCentreStore.write.Goals as goal

pub returns-clause-done : goal.returns-clause-done
returns-clause-done g c clean live inside =
    rw (c.params-to_sql.ensures, c.params-to_sql-2.ensures, c.params-to_sql-3.ensures, c.from.ensures, c.in_ok-number.ensures.text) at (c.run_counted.ensures.done clean live inside)

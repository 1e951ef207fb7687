use Rattle.sms_store_tables.proofs.centre.priorities.PriorityRowStoredRowCentreStore.write.Goals as goal

pub returns-clause-done : goal.returns-clause-done
returns-clause-done g c clean live inside =
    rw (c.params-to_sql.ensures, c.params-to_sql-2.ensures, c.from.ensures, c.in_ok-id.ensures.value) at (c.run_counted.ensures.done clean live inside)

use Rattle.sms_store_tables.proofs.centre.parts.PartRowAmendedRowCentreStore.update.Goals as goal

pub returns-clause-done : goal.returns-clause-done
returns-clause-done g c clean live inside =
    rw (c.params-to_sql.ensures, c.params-to_sql-2.ensures, c.params-to_sql-3.ensures, c.params-to_sql-4.ensures, c.params-to_sql-5.ensures, c.from.ensures, c.in_ok-pair.ensures.value.0, c.in_ok-pair.ensures.value.1, c.in_ok-due.ensures.value) at (c.run.ensures.done clean live inside)

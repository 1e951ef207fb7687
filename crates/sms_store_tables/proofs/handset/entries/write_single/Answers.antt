use Rattle.sms_store_tables.proofs.handset.entries.write_single.Goals as goal

pub returns-clause-done : goal.returns-clause-done
returns-clause-done g c clean live inside =
    rw (c.params-to_sql.ensures, c.params-to_sql-2.ensures, c.params-to_sql-3.ensures, c.params-to_sql-4.ensures, c.params-to_sql-5.ensures, c.params-to_sql-6.ensures, c.params-to_sql-7.ensures, c.params-to_sql-8.ensures, c.params-to_sql-9.ensures, c.params-to_sql-10.ensures, c.params-to_sql-11.ensures, c.params-to_sql-12.ensures, c.params-to_sql-13.ensures, c.from.ensures, c.as_slice.ensures) at (c.run_counted.ensures.done clean live inside)

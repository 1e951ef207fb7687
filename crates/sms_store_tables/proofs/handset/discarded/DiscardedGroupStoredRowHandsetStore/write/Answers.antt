use Rattle.sms_store_tables.proofs.handset.discarded.DiscardedGroupStoredRowHandsetStore.write.Goals as goal

pub returns-clause-done : goal.returns-clause-done
returns-clause-done g c clean live inside =
    rw (c.params-to_sql.ensures, c.params-to_sql-2.ensures, c.params-to_sql-3.ensures, c.params-to_sql-4.ensures, c.params-to_sql-5.ensures, c.params-to_sql-6.ensures, c.params-to_sql-7.ensures, c.params-to_sql-8.ensures, c.from.ensures, c.from-2.ensures, c.from-3.ensures, c.number.ensures, c.in_ok-source.ensures.text, c.as_few.ensures.value, c.reference_bits.ensures, c.reference_number.ensures.value, c.as_slice.ensures) at (c.run_counted.ensures.done clean live inside)

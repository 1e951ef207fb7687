use Rattle.std.proofs.Common.{refl}
use Rattle.sms_store_sql.specs.listing.Columns.{number}
use Rattle.sms_store_tables.proofs.handset.Parameters.{bound_optional, ran_with}
use Rattle.sms_store_tables.proofs.handset.outbox.OutEntryStoredRowHandsetStore.write.Goals as goal

pub returns-clause-done : goal.returns-clause-done
returns-clause-done g c clean live inside =
    ran_with g.S.Store c.args.tx.now.conn.now c.run_counted.new.tx.conn.now _ _ _ _ c.run_counted.ensures.done (rw (c.params-to_sql.ensures, c.params-to_sql-2.ensures, c.params-to_sql-3.ensures, c.params-to_sql-4.ensures, c.params-to_sql-5.ensures) (rw (c.params-to_sql-6.ensures, c.params-to_sql-7.ensures, c.params-to_sql-8.ensures, c.params-to_sql-9.ensures, c.params-to_sql-10.ensures) (rw (c.params-to_sql-11.ensures, c.params-to_sql-12.ensures, c.params-to_sql-13.ensures, c.from.ensures, c.from-2.ensures) (rw (c.from-3.ensures, c.from-4.ensures, c.from-5.ensures, c.number.ensures, c.in_ok-destination.ensures.text) (rw (c.as_few.ensures.value, c.as_slice.ensures.value, c.state_word.ensures, c.seconds_of.ensures.value, c.word_of.ensures.value) (rw (bound_optional number c.args.self.now.due (λ n. refl), bound_optional number c.args.self.now.status (λ n. refl)) refl)))))) clean live inside

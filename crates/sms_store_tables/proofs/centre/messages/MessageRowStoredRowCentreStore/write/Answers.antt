use Rattle.std.proofs.Common.{refl}
use Rattle.sms_store_sql.specs.listing.Columns.{number}
use Rattle.sms_store_tables.proofs.centre.Parameters.{bound_account, bound_mark}
use Rattle.sms_store_tables.proofs.centre.messages.MessageRowStoredRowCentreStore.write.Goals as goal
use Rattle.sms_store_tables.proofs.handset.Parameters.{bound_optional, ran_with}

pub returns-clause-done : goal.returns-clause-done
returns-clause-done g c clean live inside =
    ran_with g.S.Store c.args.tx.now.conn.now c.run_counted.new.tx.conn.now _ _ _ _ c.run_counted.ensures.done (rw (c.params-to_sql.ensures, c.params-to_sql-2.ensures, c.params-to_sql-3.ensures, c.params-to_sql-4.ensures, c.params-to_sql-5.ensures) (rw (c.params-to_sql-6.ensures, c.params-to_sql-7.ensures, c.params-to_sql-8.ensures, c.params-to_sql-9.ensures, c.params-to_sql-10.ensures) (rw (c.params-to_sql-11.ensures, c.params-to_sql-12.ensures, c.params-to_sql-13.ensures, c.params-to_sql-14.ensures, c.params-to_sql-15.ensures) (rw (c.from.ensures, c.from-2.ensures, c.from-3.ensures, c.from-4.ensures, c.in_ok-id.ensures.value) (rw (c.in_ok-submitted.ensures.value, c.in_ok-limit.ensures.value, c.in_ok-source.ensures.text, c.as_few.ensures.value, c.in_ok-handset.ensures.text) (rw (c.account_of.ensures, c.mark_of.ensures.value, c.number.ensures, c.wish_word.ensures) (rw (c.short_of.ensures.value, c.state_word.ensures, c.seconds_of.ensures.value, bound_account c.args.self.now.originator, bound_mark c.args.self.now.originator) (rw (bound_optional number c.args.self.now.split_reference (λ n. refl), bound_optional number c.args.self.now.done (λ n. refl)) refl)))))))) clean live inside

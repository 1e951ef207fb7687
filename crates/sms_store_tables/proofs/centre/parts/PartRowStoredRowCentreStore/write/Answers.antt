use Rattle.std.proofs.Common.{refl}
use Rattle.sms_store_sql.specs.listing.Columns.{number}
use Rattle.sms_store_tables.specs.centre.Pieces.{reference_bits, reference_number}
use Rattle.sms_store_tables.specs.centre.Types.{ConcatKey}
use Rattle.sms_store_tables.proofs.centre.parts.PartRowStoredRowCentreStore.write.Goals as goal
use Rattle.sms_store_tables.proofs.handset.Parameters.{bound_optional, ran_with}

pub returns-clause-done : goal.returns-clause-done
returns-clause-done g c clean live inside =
    ran_with g.S.Store c.args.tx.now.conn.now c.run_counted.new.tx.conn.now _ _ _ _ c.run_counted.ensures.done (rw (c.params-to_sql.ensures, c.params-to_sql-2.ensures, c.params-to_sql-3.ensures, c.params-to_sql-4.ensures, c.params-to_sql-5.ensures) (rw (c.params-to_sql-6.ensures, c.params-to_sql-7.ensures, c.params-to_sql-8.ensures, c.params-to_sql-9.ensures, c.params-to_sql-10.ensures) (rw (c.params-to_sql-11.ensures, c.from.ensures, c.from-2.ensures, c.from-3.ensures, c.in_ok-id.ensures.value) (rw (c.in_ok-due.ensures.value, c.as_slice.ensures, c.bits_of.ensures.value, c.number_of.ensures, c.concat_total_of.ensures) (rw (c.concat_number_of.ensures, bound_optional (λ (k : ConcatKey). number (reference_bits k.reference)) c.args.self.now.key (λ k. refl), bound_optional (λ (k : ConcatKey). number (reference_number k.reference)) c.args.self.now.key (λ k. refl), bound_optional (λ (k : ConcatKey). number k.total) c.args.self.now.key (λ k. refl), bound_optional (λ (k : ConcatKey). number k.number) c.args.self.now.key (λ k. refl)) refl))))) clean live inside

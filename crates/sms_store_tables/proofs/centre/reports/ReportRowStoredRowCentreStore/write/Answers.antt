use Rattle.std.proofs.Common.{refl}
use Rattle.sms_store_tables.proofs.centre.Parameters.{bound_reference, bound_tpdu}
use Rattle.sms_store_tables.proofs.centre.reports.ReportRowStoredRowCentreStore.write.Goals as goal
use Rattle.sms_store_tables.proofs.handset.Parameters.{ran_with}

pub returns-clause-done : goal.returns-clause-done
returns-clause-done g c clean live inside =
    ran_with g.S.Store c.args.tx.now.conn.now c.run_counted.new.tx.conn.now _ _ _ _ c.run_counted.ensures.done (rw (c.params-to_sql.ensures, c.params-to_sql-2.ensures, c.params-to_sql-3.ensures, c.params-to_sql-4.ensures, c.params-to_sql-5.ensures) (rw (c.params-to_sql-6.ensures, c.params-to_sql-7.ensures, c.params-to_sql-8.ensures, c.params-to_sql-9.ensures, c.from.ensures) (rw (c.in_ok-place.ensures.value, c.in_ok-id.ensures.value, c.in_ok-made.ensures.value, c.in_ok-due.ensures.value, c.kind_word.ensures) (rw (c.kind_reference.ensures.value, c.kind_tpdu.ensures, bound_reference c.args.self.now.kind, bound_tpdu c.args.self.now.kind) refl)))) clean live inside

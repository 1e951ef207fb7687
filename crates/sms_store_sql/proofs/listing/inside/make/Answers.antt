use Rattle.sms_store_sql.proofs.listing.inside.make.Goals as goal

pub returns-clause-done : goal.returns-clause-done
returns-clause-done g c clean live inside = rw (c.table-table.ensures.create) at (c.run.ensures.done clean live inside)

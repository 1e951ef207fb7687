use Rattle.sms_store_tables.proofs.handset.schema.has_tables.Goals as goal

pub returns-clause-yes : goal.returns-clause-yes
returns-clause-yes c is = rw (c.table-meta.ensures.planned, c.table-entry.ensures.planned, c.table-last.ensures.planned, c.table-out.ensures.planned, c.table-mark.ensures.planned, c.counters_table-count.ensures.planned, c.table-meta.ensures.index, c.table-entry.ensures.index, c.table-last.ensures.index, c.table-out.ensures.index, c.table-mark.ensures.index, c.counters_table-count.ensures.index) at (c.is_schema.ensures.yes is)

pub returns-clause-always : goal.returns-clause-always
returns-clause-always c is = (rw (c.table-meta.ensures.planned, c.table-entry.ensures.planned, c.table-last.ensures.planned, c.table-out.ensures.planned, c.table-mark.ensures.planned, c.counters_table-count.ensures.planned, c.table-meta.ensures.index, c.table-entry.ensures.index, c.table-last.ensures.index, c.table-out.ensures.index, c.table-mark.ensures.index, c.counters_table-count.ensures.index) at c.is_schema.ensures.always) is

use Rattle.std.proofs.Common.{◌≡◌, [], ◌∷◌, map, refl, sym, ◌∙◌}
use Rattle.sms_store_sql.specs.schema.StoredTable.{table_planned}
use Rattle.sms_store_sql.proofs.schema.Judging.{first_planned}
use Rattle.sms_store_tables.specs.centre.CentreSchema.{centre_tables}
use Rattle.sms_store_tables.proofs.centre.schema.has_first.Goals as goal

pub returns-clause-yes : goal.returns-clause-yes
returns-clause-yes c is =
    let same : map table_planned (c.table-meta.result ∷ c.table-message.result ∷ c.table-part.result ∷ c.table-reference.result ∷ c.table-handset.result ∷ c.table-report.result ∷ c.table-priority.result ∷ c.table-bar.result ∷ []) ≡ centre_tables = rw (c.table-meta.ensures.planned, c.table-message.ensures.planned, c.table-part.ensures.planned, c.table-reference.ensures.planned, c.table-handset.ensures.planned, c.table-report.ensures.planned, c.table-priority.ensures.planned, c.table-bar.ensures.planned) refl in
    c.is_schema.ensures.yes is ∙ first_planned c.args.tables c.args.indexes _ _ _ _ same (rw (c.table-meta.ensures.index, c.table-message.ensures.index, c.table-part.ensures.index, c.table-reference.ensures.index, c.table-handset.ensures.index, c.table-report.ensures.index, c.table-priority.ensures.index, c.table-bar.ensures.index) refl)

pub returns-clause-always : goal.returns-clause-always
returns-clause-always c is =
    let same : map table_planned (c.table-meta.result ∷ c.table-message.result ∷ c.table-part.result ∷ c.table-reference.result ∷ c.table-handset.result ∷ c.table-report.result ∷ c.table-priority.result ∷ c.table-bar.result ∷ []) ≡ centre_tables = rw (c.table-meta.ensures.planned, c.table-message.ensures.planned, c.table-part.ensures.planned, c.table-reference.ensures.planned, c.table-handset.ensures.planned, c.table-report.ensures.planned, c.table-priority.ensures.planned, c.table-bar.ensures.planned) refl in
    c.is_schema.ensures.always (is ∙ sym (first_planned c.args.tables c.args.indexes _ _ _ _ same (rw (c.table-meta.ensures.index, c.table-message.ensures.index, c.table-part.ensures.index, c.table-reference.ensures.index, c.table-handset.ensures.index, c.table-report.ensures.index, c.table-priority.ensures.index, c.table-bar.ensures.index) refl)))

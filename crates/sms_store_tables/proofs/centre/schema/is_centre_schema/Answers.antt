use Rattle.std.proofs.Common.{sym, ◌∙◌}
use Rattle.sms_store_sql.proofs.schema.Judging.{not_wanted}
use Rattle.sms_store_tables.specs.centre.CentreSchema.{schema_is}
use Rattle.sms_store_tables.proofs.centre.schema.is_centre_schema.Goals as goal

pub returns-clause-yes : goal.returns-clause-yes
returns-clause-yes c is = c.has_first.ensures.yes is ∙ sym schema_is

pub returns-clause-no : goal.returns-clause-no
returns-clause-no c off = not_wanted _ _ _ _ schema_is c.has_first.ensures.always off

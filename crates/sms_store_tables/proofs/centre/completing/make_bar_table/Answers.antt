use Rattle.std.proofs.Common.{[]}
use Rattle.sms_store_sql.proofs.listing.Steps.{ok_then}
use Rattle.sms_store_tables.specs.centre.CentreSchema.{bar_plan}
use Rattle.sms_store_tables.specs.centre.Completing.{MakesBars}
use Rattle.sms_store_tables.proofs.centre.Completed.{ran_leads, bar_table_made}
use Rattle.sms_store_tables.proofs.centre.completing.make_bar_table.Goals as goal
use Rattle.sms_store_sql.specs.tabled.Texts.{create_text}

pub returns-clause-done : goal.returns-clause-done
returns-clause-done g c clean live inside = ok_then c.make.result (ran_leads MakesBars (create_text bar_plan) [] _ _ (bar_table_made _ _)) (c.make.ensures.done clean live inside)

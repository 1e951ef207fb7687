use Rattle.std.proofs.Common.{[]}
use Rattle.sms_store_sql.proofs.listing.Steps.{ok_then}
use Rattle.sms_store_tables.specs.centre.CentreSchema.{priority_plan}
use Rattle.sms_store_tables.specs.centre.Completing.{MakesPriority}
use Rattle.sms_store_tables.proofs.centre.Completed.{ran_leads, priority_table_made}
use Rattle.sms_store_tables.proofs.centre.completing.make_priority_table.Goals as goal
use Rattle.sms_store_sql.specs.tabled.Texts.{create_text}

pub returns-clause-done : goal.returns-clause-done
returns-clause-done g c clean live inside = ok_then c.make.result (ran_leads MakesPriority (create_text priority_plan) [] _ _ (priority_table_made _ _)) (c.make.ensures.done clean live inside)

use Rattle.std.proofs.Common.{[]}
use Rattle.sms_store_sql.proofs.listing.Steps.{ok_then}
use Rattle.sms_store_tables.specs.centre.CentreSchema.{create_report_message}
use Rattle.sms_store_tables.specs.centre.Completing.{IndexesReports}
use Rattle.sms_store_tables.proofs.centre.Completed.{ran_leads, reports_indexed}
use Rattle.sms_store_tables.proofs.centre.completing.index_reports.Goals as goal

pub returns-clause-done : goal.returns-clause-done
returns-clause-done g c clean live inside = ok_then c.run.result (ran_leads IndexesReports create_report_message [] _ _ (reports_indexed _ _)) (c.run.ensures.done clean live inside)

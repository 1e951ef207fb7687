use Rattle.sms_world.proofs.entries_keep_references.EntriesAgreeing.{event_reported}
use Rattle.sms_world.proofs.entries_keep_references.an_event_reports_its_entries.Goals as goal

pub returns : goal.returns
returns c = record { agrees = event_reported }

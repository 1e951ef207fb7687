-- A centre between two events, and in the middle of one. A draft has three parts, and most stages touch one of them alone.
-- They are the rows with their changes, and the links to handsets with what was sent on them. The third is the sessions of
-- applications with the receipts that were sent in them.
use Rattle.std.specs.Prelude.{ℕ, List, [], Option, Some, None}
use Rattle.sms_rows.specs.table.Since.{Since, untouched, oldest_first as changes_of}
use Rattle.sms_rows.specs.table.Table.{all_applied}
use Rattle.sms_centre_spec.specs.declared.answer.CentreAnswer.{CentreAnswer}
use Rattle.sms_centre_spec.specs.declared.rows.Changes.{Changes}
use Rattle.sms_centre_spec.specs.declared.rows.Rows.{Rows}
use Rattle.sms_centre_spec.specs.declared.setup.Setup.{Setup}
use Rattle.sms_centre_rows.specs.declared.messages.bar.BarRow.{BarRow}
use Rattle.sms_centre_rows.specs.declared.messages.message.MessageRow.{MessageRow}
use Rattle.sms_centre_rows.specs.declared.messages.part.PartRow.{PartRow}
use Rattle.sms_centre_rows.specs.declared.messages.priority.PriorityRow.{PriorityRow}
use Rattle.sms_centre_rows.specs.messages.Bars.{bar_key, bars_of}
use Rattle.sms_centre_rows.specs.messages.Messages.{Messages, messages_of, parts_of, priorities_of, put_message, put_part, amend_part, put_priority}
use Rattle.sms_centre_rows.specs.messages.Messages.{message_key, part_key, priority_key, part_reaching}
use Rattle.sms_centre_rows.specs.declared.reports.report.ReportRow.{ReportRow}
use Rattle.sms_centre_rows.specs.reports.Receipts.{Bindings, Session}
use Rattle.sms_centre_rows.specs.reports.Reports.{reports_of, amend_report, report_key, report_reaching}
use Rattle.sms_centre_rows.specs.reports.Waiting.{waiting_for}
use Rattle.sms_centre_rows.specs.declared.waiting.handset.HandsetRow.{HandsetRow}
use Rattle.sms_centre_rows.specs.declared.waiting.handset_link.HandsetLink.{HandsetLink}
use Rattle.sms_centre_rows.specs.declared.waiting.queued_part.QueuedPart.{QueuedPart}
use Rattle.sms_centre_rows.specs.declared.waiting.progress.Progress.{Progress}
use Rattle.sms_centre_rows.specs.declared.waiting.reference.ReferenceRow.{ReferenceRow}
use Rattle.sms_centre_rows.specs.waiting.Keys.{handset_key, reference_key}
use Rattle.sms_centre_rows.specs.waiting.Links.{Links}
use Rattle.sms_centre_rows.specs.waiting.References.{Allocations, handsets_of, references_of, give}
use Rattle.sms_centre_rows.specs.waiting.Revisions.{Revised, unrevised, all_revised, oldest_first as revisions_of}

-- ---- a centre between two events

pub record Core : Type 0 where
  pub rows : Rows
  -- the greatest moment of its events, or of its rows
  pub moment : ℕ
  -- in the order in which they were first used
  pub links : List HandsetLink
  -- in the order of their numbers
  pub sessions : List Session

-- ---- a centre in the middle of an event

-- the rows, and the moment of the event
pub record Store : Type 0 where
  pub setup : Setup
  pub moment : ℕ
  pub messages : Messages
  pub allocations : Allocations
  pub reports : Revised ReportRow
  -- no event changes them
  pub bars : Since BarRow

pub record Draft : Type 0 where
  pub store : Store
  pub links : Links
  pub bindings : Bindings
  pub answer : Option CentreAnswer

abbrev pub store_of : Rows → ℕ → Store
store_of rows moment = record {
  setup = rows.setup;
  moment = moment;
  messages = record { messages = untouched rows.messages; parts = unrevised rows.parts; priorities = untouched rows.priorities };
  allocations = record { handsets = untouched rows.handsets; references = untouched rows.references };
  reports = unrevised rows.reports;
  bars = untouched rows.bars;
}

abbrev pub draft_of : Core → Draft
draft_of c = record {
  store = store_of c.rows c.moment;
  links = record { all = c.links; frames = []; read = [] };
  bindings = record { sessions = c.sessions; deliveries = [] };
  answer = None;
}

-- the rows as they are now
abbrev pub rows_of : Store → Rows
rows_of s = record {
  messages = messages_of s.messages;
  parts = parts_of s.messages;
  references = references_of s.allocations;
  handsets = handsets_of s.allocations;
  reports = reports_of s.reports;
  priorities = priorities_of s.messages;
  bars = bars_of s.bars;
  setup = s.setup;
}

abbrev pub core_of : Draft → Core
core_of d = record { rows = rows_of d.store; moment = d.store.moment; links = d.links.all; sessions = d.bindings.sessions }

-- ---- the changes of the rows, of each list the oldest first

abbrev pub changes_in : Store → Changes
changes_in s = record {
  messages = changes_of s.messages.messages.news;
  parts = revisions_of s.messages.parts.news;
  references = changes_of s.allocations.references.news;
  handsets = changes_of s.allocations.handsets.news;
  reports = revisions_of s.reports.news;
  priorities = changes_of s.messages.priorities.news;
  bars = changes_of s.bars.news;
}

abbrev pub no_changes : Changes
no_changes = record { messages = []; parts = []; references = []; handsets = []; reports = []; priorities = []; bars = [] }

-- the rows after the changes
abbrev pub rows_after : Changes → Rows → Rows
rows_after changes rows = record {
  messages = all_applied message_key changes.messages rows.messages;
  parts = all_revised part_key part_reaching changes.parts rows.parts;
  references = all_applied reference_key changes.references rows.references;
  handsets = all_applied handset_key changes.handsets rows.handsets;
  reports = all_revised report_key report_reaching changes.reports rows.reports;
  priorities = all_applied priority_key changes.priorities rows.priorities;
  bars = all_applied bar_key changes.bars rows.bars;
  setup = rows.setup;
}

-- ---- the rows of a store, looked at

abbrev pub messages_in : Store → List MessageRow
messages_in s = messages_of s.messages

abbrev pub parts_in : Store → List PartRow
parts_in s = parts_of s.messages

abbrev pub priorities_in : Store → List PriorityRow
priorities_in s = priorities_of s.messages

abbrev pub bars_in : Store → List BarRow
bars_in s = bars_of s.bars

abbrev pub handsets_in : Store → List HandsetRow
handsets_in s = handsets_of s.allocations

abbrev pub references_in : Store → List ReferenceRow
references_in s = references_of s.allocations

abbrev pub reports_in : Store → List ReportRow
reports_in s = reports_of s.reports

-- all that waits for a handset
abbrev pub waiting_in : List ℕ → Store → List QueuedPart
waiting_in handset s = waiting_for handset (messages_in s) (priorities_in s) (parts_in s) (reports_in s)

-- ---- moves: one change of one list each, but giving, which changes two

abbrev pub with_message : MessageRow → Store → Store
with_message m s = record s { messages = put_message m s.messages }

abbrev pub with_part : PartRow → Store → Store
with_part p s = record s { messages = put_part p s.messages }

abbrev pub with_part_at : PartRow → Progress → Store → Store
with_part_at p progress s = record s { messages = amend_part p progress s.messages }

abbrev pub with_priority : PriorityRow → Store → Store
with_priority p s = record s { messages = put_priority p s.messages }

abbrev pub with_given : HandsetRow → ℕ → Store → Store
with_given h reference s = record s { allocations = give h reference s.moment s.allocations }

abbrev pub with_reports : Revised ReportRow → Store → Store
with_reports reports s = record s { reports = reports }

abbrev pub with_report_at : ReportRow → Progress → Store → Store
with_report_at r progress s = with_reports (amend_report r progress s.reports) s

-- ---- moves of a draft

abbrev pub in_store : Store → Draft → Draft
in_store s d = record d { store = s }

abbrev pub on_links : Links → Draft → Draft
on_links links d = record d { links = links }

abbrev pub answer_with : CentreAnswer → Draft → Draft
answer_with a d = record d { answer = Some a }

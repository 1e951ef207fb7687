-- What waits for a handset, as it becomes due.
use Rattle.std.specs.Prelude.{◌≡◌, ◌<◌, true}
use Rattle.sms_centre_rows.specs.messages.Messages.{part_at}
use Rattle.sms_centre_rows.specs.reports.Reports.{report_of}
use Rattle.sms_centre_rows.specs.declared.waiting.queued_part.QueuedPart.{QueuedPart}
use Rattle.sms_centre_spec.specs.Draft.{Store, parts_in, reports_in}
use Rattle.sms_centre_spec.specs.Transfers.{is_open_part_at, is_open_status_at}

-- it is an open part, or, with number 0, an open status report
pub record IsOpenQueued (l : QueuedPart) (s : Store) : Type 0 where
  pub small : l.number < 256
  pub part : 0 < l.number → is_open_part_at (part_at l.id l.number (parts_in s)) s ≡ true
  pub status : l.number ≡ 0 → is_open_status_at (report_of l.id (reports_in s)) ≡ true

use Rattle.sms_world.proofs.headline.PlainClaims.{ascend_is, ascending_is, longer_is, no_error_is, plain_once_is, receipts_is, references_is}
use Rattle.sms_world.proofs.headline.PlainDeleted.{deleted_is}
use Rattle.sms_world.proofs.headline.PlainDelivered.{accepted_lines_are, delivered_lines_are, of_events_is, told_lines_are}
use Rattle.sms_world.proofs.headline.PlainJoined.{joined_pieces_are}
use Rattle.sms_world.proofs.headline.PlainNamed.{named_is}
use Rattle.sms_world.proofs.headline.PlainReports.{reports_is}
use Rattle.sms_world.proofs.headline.PlainRequests.{cancels_are, queries_are}
use Rattle.sms_world.proofs.headline.PlainSent.{sent_lines_are}
use Rattle.sms_world.proofs.headline.PlainStays.{each_stays_is}
use Rattle.sms_world.proofs.headline.PlainWhole.{plain_is, plain_report_is}
use Rattle.sms_world.proofs.headline.plain_claims_hold.Goals as goal

pub returns : goal.returns
returns c = record {
  reports = reports_is;
  ascending = ascending_is;
  longer = longer_is;
  stay = each_stays_is;
  receipts = receipts_is;
  references = references_is;
  answers = ascend_is;
  named = named_is;
  queries = queries_are;
  cancels = cancels_are;
  deleted = deleted_is;
  no_error = no_error_is;
  of_events = of_events_is;
  once = plain_once_is;
  delivered = delivered_lines_are;
  told = told_lines_are;
  accepted = accepted_lines_are;
  joined = joined_pieces_are;
  sent = sent_lines_are;
  whole = plain_is;
  report = plain_report_is;
}

use Rattle.sms_world.proofs.wrong_reports.FinalKept.{refused as state_is}
use Rattle.sms_world.proofs.wrong_reports.LineGone.{forgotten, gone}
use Rattle.sms_world.proofs.wrong_reports.LineTwice.{refused as line_is}
use Rattle.sms_world.proofs.wrong_reports.NoEvent.{refused as event_is}
use Rattle.sms_world.proofs.wrong_reports.OwnersText.{entry_refused as entry_is, refused as owner_is}
use Rattle.sms_world.proofs.wrong_reports.StoppedBefore.{refused as stopped_is}
use Rattle.sms_world.proofs.wrong_reports.Unanswered.{refused as unanswered_is}
use Rattle.sms_world.proofs.wrong_reports.wrong_messages_are_refused.Goals as goal

pub returns : goal.returns
returns c = record { state = state_is; gone = gone; forgotten = forgotten; line = line_is; event = event_is; stopped = stopped_is; unanswered = unanswered_is; owner = owner_is; entry = entry_is }

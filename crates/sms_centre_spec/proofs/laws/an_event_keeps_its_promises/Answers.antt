use Rattle.sms_centre_spec.proofs.EventLaws.{keeps_apart, keeps_rows, sends_frames, sends_receipts}
use Rattle.sms_centre_spec.proofs.laws.an_event_keeps_its_promises.Goals as goal

pub returns : goal.returns
returns c = record { nothing_lost = keeps_rows; apart = keeps_apart; receipts = sends_receipts; frames = sends_frames }

use Rattle.sms_centre.proofs.Promises.{plan_answers, plan_frames, plan_keeps, plan_receipts, plan_sound}
use Rattle.sms_centre.proofs.laws.what_a_plan_is_good_for.Goals as goal

pub returns : goal.returns
returns c = record { sound = plan_sound; nothing_lost = plan_keeps; answered = plan_answers; receipts = plan_receipts; frames = plan_frames }

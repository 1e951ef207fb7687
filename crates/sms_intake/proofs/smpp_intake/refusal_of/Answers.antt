use Rattle.std.proofs.Common.{Result, ap, ◌∙◌}
use Rattle.smpp_pdu.specs.declared.status.CommandStatus.{CommandStatus}
use Rattle.sms_intake.specs.declared.smpp_intake.Judged.{Judged}
use Rattle.sms_intake.specs.SmppIntake.{refusal_in}
use Rattle.sms_intake.proofs.Judgements.{judgement_refuses}
use Rattle.sms_intake.proofs.smpp_intake.refusal_of.Goals as goal

pub returns-in-Ok : goal.returns-in-Ok
returns-in-Ok c = ap (λ (r : Result Judged CommandStatus). refusal_in r) c.in-Ok.ensures ∙ judgement_refuses c.args.account.now c.args.now c.args.message.now

pub returns-in-Err : goal.returns-in-Err
returns-in-Err c = ap (λ (r : Result Judged CommandStatus). refusal_in r) c.in-Err.ensures ∙ judgement_refuses c.args.account.now c.args.now c.args.message.now

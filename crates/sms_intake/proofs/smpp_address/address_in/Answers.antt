use Rattle.std.proofs.Common.{◌∙◌, ap, sym}
use Rattle.sms_intake.specs.SmppIntake.{is_ascii}
use Rattle.sms_intake.proofs.Entities.{in_ascii, is_utf8}
use Rattle.sms_intake.proofs.smpp_address.address_in.Goals as goal

pub returns-in-Ok-clause-is : goal.returns-in-Ok-clause-is
returns-in-Ok-clause-is c =
    in_ascii c.args.entity.now c.in-Ok.text.now c.new.result c.ok.result (ap is_ascii (sym c.as_slice-octets.ensures) ∙ sym c.if-not-is_ascii.ensures)
    (c.in-Ok.ensures.cases.0 ∙ c.as_slice-octets.ensures) c.new.ensures.exact c.ok.ensures.value

pub returns-in-Err : goal.returns-in-Err
returns-in-Err c = absurd (c.in-Err.ensures.cases.0 (is_utf8 c.as_slice-octets.result.now (sym c.if-not-is_ascii.ensures)))

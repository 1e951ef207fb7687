use Rattle.std.proofs.Common.{length, ap, ◌∙◌}
use Rattle.sms_concat.specs.UserData.{data_length}
use Rattle.sms_concat.proofs.Bodies.{fields_carry}
use Rattle.sms_concat.proofs.writing.user_data_behind.Goals as goal

pub returns-clause-carries : goal.returns-clause-carries
returns-clause-carries c =
    fields_carry c.args.header.now c.args.content.now c.is_empty.result c.data_length.result c.in_ok-octets.octets c.requires.units c.is_empty.ensures (c.data_length.ensures ∙ ap (data_length c.args.content.now.coding (length c.args.header.now)) c.len.ensures) c.in_ok-octets.ensures

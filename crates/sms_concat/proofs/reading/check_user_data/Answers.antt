use Rattle.std.proofs.lemmas.Result.{err_from_is_err_and}
use Rattle.sms_concat.proofs.FieldLaws.{part_refused, part_tested}
use Rattle.sms_concat.proofs.reading.check_user_data.Goals as goal

pub returns-in_err-size : goal.returns-in_err-size
returns-in_err-size c =
    let p = err_from_is_err_and c.from_residual.result c.from_residual.ensures.1 in
    rw (p.1, p.2) (part_refused c.args.header_indicator c.args.data_coding_scheme c.args.length c.args.octets.now c.in_err-size.field-0.0 c.in_err-size.ensures.is)

pub returns : goal.returns
returns c = part_tested c.args.header_indicator c.args.data_coding_scheme c.args.length c.args.octets.now c.in_ok-size.size c.dcs-coding.result c.test_units.result c.in_ok-size.ensures.is c.dcs-coding.ensures (rw c.split_at.ensures.back at c.test_units.ensures)

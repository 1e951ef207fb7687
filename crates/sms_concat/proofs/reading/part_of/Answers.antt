use Rattle.std.proofs.lemmas.Result.{err_from_is_err_and}
use Rattle.sms_concat.proofs.FieldLaws.{part_short, part_faulty, part_made}
use Rattle.sms_concat.proofs.reading.part_of.Goals as goal

pub returns-in_err-size : goal.returns-in_err-size
returns-in_err-size c =
    let p = err_from_is_err_and c.from_residual.result c.from_residual.ensures.1 in
    rw (p.1, p.2) (part_short c.args.header_indicator c.args.data_coding_scheme c.args.length c.args.octets.now c.in_err-size.field-0.0 c.in_err-size.ensures.is)

pub returns-in_err-units : goal.returns-in_err-units
returns-in_err-units c =
    let p = err_from_is_err_and c.from_residual-in_err-units.result c.from_residual-in_err-units.ensures.1 in
    rw (p.1, p.2) (part_faulty c.args.header_indicator c.args.data_coding_scheme c.args.length c.args.octets.now c.in_ok-size.size c.dcs-coding.result c.in_err-units.field-0.0 c.in_ok-size.ensures.is c.dcs-coding.ensures (rw c.split_at.ensures.back at c.in_err-units.ensures))

pub returns : goal.returns
returns c = part_made c.args.header_indicator c.args.data_coding_scheme c.args.length c.args.octets.now c.in_ok-size.size c.dcs-coding.result c.in_ok-units.units c.header_key-key.result c.in_ok-size.ensures.is c.dcs-coding.ensures (rw c.split_at.ensures.back at c.in_ok-units.ensures) c.header_key-key.ensures

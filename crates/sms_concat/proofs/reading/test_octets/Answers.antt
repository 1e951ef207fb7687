use Rattle.std.proofs.Common.{arith}
use Rattle.sms_concat.proofs.FieldLaws.{octets_exact}
use Rattle.sms_concat.proofs.reading.test_octets.Goals as goal

pub returns : goal.returns
returns c = (c.args.octets.now, octets_exact c.args.header c.args.length c.args.octets.now (omega arith))

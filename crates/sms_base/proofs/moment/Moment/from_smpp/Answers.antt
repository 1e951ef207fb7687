use Rattle.std.proofs.Common.{ap, Ok}
use Rattle.sms_base.proofs.SmppTimes.{time_found, never, read_alone}
use Rattle.sms_base.proofs.moment.Moment.from_smpp.Goals as goal

pub returns-in-Some-clause-found : goal.returns-in-Some-clause-found
returns-in-Some-clause-found c = time_found c.time_of.result c.args.octets.now c.args.now c.in-Some.moment c.time_of.ensures c.in-Some.is

pub returns-in-Some-clause-only : goal.returns-in-Some-clause-only
returns-in-Some-clause-only c = λ m h. ap (λ n. Ok n) (read_alone c.time_of.result c.args.octets.now c.args.now m c.in-Some.moment c.time_of.ensures c.in-Some.is h)

pub returns-in-None-clause-only : goal.returns-in-None-clause-only
returns-in-None-clause-only c = λ m h. absurd (never c.time_of.result c.args.octets.now c.args.now m c.time_of.ensures c.in-None.is h)

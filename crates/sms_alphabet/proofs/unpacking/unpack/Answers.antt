use Rattle.sms_alphabet.proofs.RoundTrip.{found, only}
use Rattle.sms_alphabet.proofs.unpacking.unpack.Goals as goal

pub returns-clause-found : goal.returns-clause-found
returns-clause-found c = found c.args.octets.now c.args.fill c.args.count c.unpack_tested.result c.unpack_tested.ensures

pub returns-clause-only : goal.returns-clause-only
returns-clause-only c = λ septets s p n. only c.args.octets.now septets c.args.fill c.args.count c.unpack_tested.result c.unpack_tested.ensures s p n

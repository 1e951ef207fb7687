use Rattle.std.proofs.Common.{ap, subst}
use Rattle.sms_base.specs.Reading.{AreOctets}
use Rattle.sms_alphabet.proofs.Packed.{packing_is}
use Rattle.sms_alphabet.proofs.packing.pack.Goals as goal

pub returns-clause-exact : goal.returns-clause-exact
returns-clause-exact c = packing_is c.args.septets.now c.in_ok-octets.octets c.args.fill (subst AreOctets c.as_slice.ensures c.are_octets.ensures) c.in_ok-octets.ensures

use Rattle.sms_alphabet.proofs.Elements.{filled, read_of}
use Rattle.sms_alphabet.proofs.header.header_with.Goals as goal

pub invariant_of-result : goal.invariant_of-result
invariant_of-result c = filled c.args.octets.now c.requires c.in_ok-test_elements.ensures

pub returns : goal.returns
returns c = read_of c.args.octets.now c.in_ok-test_elements.ensures

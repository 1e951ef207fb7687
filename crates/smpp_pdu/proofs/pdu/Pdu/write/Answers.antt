use Rattle.smpp_pdu.proofs.WriteLaws.{in_grammar, read_again}
use Rattle.smpp_pdu.proofs.pdu.Pdu.write.Goals as goal

pub returns-clause-pdu : goal.returns-clause-pdu
returns-clause-pdu c = in_grammar c.octets.result c.args.self.now c.requires c.octets.ensures

pub returns-clause-again : goal.returns-clause-again
returns-clause-again c = read_again c.octets.result c.args.self.now c.requires c.octets.ensures

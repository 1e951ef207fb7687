use Rattle.sms_alphabet.proofs.Elements.{header_is, header_says}
use Rattle.sms_alphabet.proofs.laws.header_is_read_by_the_grammar.Goals as goal

pub returns : goal.returns
returns c = λ octets answer. (header_is octets answer, header_says octets answer)

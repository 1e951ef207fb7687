use Rattle.std.proofs.Common.{sym, ◌∙◌}
use Rattle.smsc_endpoint.proofs.LinkNumbers.{number_found}
use Rattle.smsc_endpoint.proofs.first_frame.number_of.Goals as goal

pub returns : goal.returns
returns c = number_found c.of.result c.args.octets.now (sym c.is_number.ensures ∙ c.if-not-is_number.false) c.of.ensures

use Rattle.sms_relay.specs.declared.message_type.Direction.TheVariants.{Down}
use Rattle.sms_relay.proofs.UnitLaws.{written_found, written_down_again}
use Rattle.sms_relay.proofs.writing.write_down.Goals as goal

pub returns-clause-in_grammar : goal.returns-clause-in_grammar
returns-clause-in_grammar c = written_found Down c.args.rp.now c.octets_of.result c.requires c.octets_of.ensures

pub returns-clause-again : goal.returns-clause-again
returns-clause-again c = written_down_again c.args.rp.now c.octets_of.result c.requires c.octets_of.ensures

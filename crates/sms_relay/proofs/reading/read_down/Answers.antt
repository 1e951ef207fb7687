use Rattle.std.proofs.Common.{arith, ◌∙◌}
use Rattle.sms_relay.specs.RelayReading.{down_at}
use Rattle.sms_relay.specs.declared.message_type.Direction.TheVariants.{Down}
use Rattle.sms_relay.proofs.UnitLaws.{found, again}
use Rattle.sms_relay.proofs.reading.read_down.Goals as goal

pub returns-clause-found : goal.returns-clause-found
returns-clause-found c = found Down c.args.octets.now c.whole.result (λ i. omega (arith, c.type_inv.octets i)) c.whole.ensures

pub returns-clause-only : goal.returns-clause-only
returns-clause-only c = λ rp h. c.whole.ensures ∙ again Down c.args.octets.now rp h

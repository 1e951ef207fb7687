use Rattle.std.proofs.Common.{arith, ◌∙◌}
use Rattle.sms_tpdu.proofs.Carriers.{down_found, down_found_writable, down_again}
use Rattle.sms_tpdu.proofs.down.read_down.Goals as goal

pub returns-clause-found : goal.returns-clause-found
returns-clause-found c = down_found c.args.carrier c.args.octets.now c.down_of.result (λ i. omega (arith, c.type_inv.octets i)) c.down_of.ensures

pub returns-clause-only : goal.returns-clause-only
returns-clause-only c = λ t h. c.down_of.ensures ∙ down_again c.args.carrier c.args.octets.now t h

pub returns-clause-writable : goal.returns-clause-writable
returns-clause-writable c = down_found_writable c.args.carrier c.args.octets.now c.down_of.result (λ i. omega (arith, c.type_inv.octets i)) c.down_of.ensures

use Rattle.std.proofs.Common.{arith, ◌∙◌}
use Rattle.sms_control.proofs.ControlFrames.{cp_found, cp_again}
use Rattle.sms_control.proofs.message.Cp.read.Goals as goal

pub returns-clause-found : goal.returns-clause-found
returns-clause-found c = cp_found c.args.octets.now c.cp_of.result (λ i. omega (arith, c.type_inv.octets i)) c.cp_of.ensures

pub returns-clause-only : goal.returns-clause-only
returns-clause-only c = λ cp h. c.cp_of.ensures ∙ cp_again c.args.octets.now cp h

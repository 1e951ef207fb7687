use Rattle.sms_script.proofs.Spelled.{decoded_are}
use Rattle.sms_script.proofs.hexadecimal.HexView.octets.Goals as goal

pub returns-in-Ok : goal.returns-in-Ok
returns-in-Ok c = let h = decoded_are c.self.inside.digits.now c.self.invariant in let i = c.in-Ok.ensures.ok in let v = c.self.view_is in let f = c.from_vec.ensures in cc

use Rattle.std.proofs.Common.{refl, inl}
use Rattle.sms_world.specs.wrong_reports.Literals.{accepted, hello_octets}
use Rattle.sms_world.specs.wrong_reports.Tried.{AcceptedLaw}

-- no message has a line
pub refused : AcceptedLaw
refused d = (d.accepted (accepted hello_octets) (inl refl) refl).among

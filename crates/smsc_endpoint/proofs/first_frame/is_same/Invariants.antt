use Rattle.std.proofs.Common.{◌≡◌, not, eqb, length, drop}
use Rattle.smsc_endpoint.proofs.Secrets.{differs_over}
use Rattle.smsc_endpoint.proofs.first_frame.is_same.Given as goal

abbrev pub invariant-loop-octet : goal.invariant-loop-octet
invariant-loop-octet l =
    differs_over l.differs l.left (drop l.octet-index l.given) ≡ differs_over (not (eqb (length l.secret) (length l.given))) l.secret l.given

use Rattle.std.proofs.Common.{◌≡◌, drop}
use Rattle.smsc_endpoint.specs.FirstFrame.{is_secret_of}
use Rattle.smsc_endpoint.proofs.first_frame.is_secret_of.Given as goal

abbrev pub invariant-loop-own : goal.invariant-loop-own
invariant-loop-own l = is_secret_of l.number l.given (drop l.own-index l.secrets) ≡ is_secret_of l.number l.given l.secrets

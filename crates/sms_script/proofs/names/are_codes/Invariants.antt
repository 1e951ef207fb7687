use Rattle.std.proofs.Common.{◌≡◌, drop}
use Rattle.std.specs.Str.{bytes_eq}
use Rattle.sms_script.proofs.names.are_codes.Given as goal

abbrev pub invariant-loop-place : goal.invariant-loop-place
invariant-loop-place l = bytes_eq (drop l.place l.characters) (drop l.place l.octets) ≡ bytes_eq l.characters l.octets

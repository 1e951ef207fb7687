use Rattle.std.proofs.Common.{◌≡◌, ◌≤◌, drop}
use Rattle.sms_script.specs.Numbers.{greatest, number_of, number_on}
use Rattle.sms_script.proofs.number.number_of.Given as goal

abbrev pub invariant-loop-octet : goal.invariant-loop-octet
invariant-loop-octet l = (number_of l.word ≡ number_on l.number (drop l.octet-index l.word)) × (l.number ≤ greatest)

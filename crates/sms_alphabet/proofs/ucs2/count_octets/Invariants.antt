use Rattle.std.proofs.Common.{◌≡◌, ℕ, List, length}
use Rattle.sms_alphabet.specs.Ucs2.{octets_for}
use Rattle.sms_alphabet.proofs.Characters.{Along}
use Rattle.sms_alphabet.proofs.ucs2.count_octets.Given as goal

abbrev pub invariant-loop-character : goal.invariant-loop-character
invariant-loop-character l = (out : List ℕ) × (l.count ≡ length out) × Along octets_for l.text l.character-iterator.rest.now out

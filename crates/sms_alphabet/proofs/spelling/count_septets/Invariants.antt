use Rattle.std.proofs.Common.{◌≡◌, ℕ, List, length}
use Rattle.sms_alphabet.specs.Spelling.{septets_for}
use Rattle.sms_alphabet.proofs.Characters.{Along}
use Rattle.sms_alphabet.proofs.spelling.count_septets.Given as goal

abbrev pub invariant-loop-character : goal.invariant-loop-character
invariant-loop-character l = (out : List ℕ) × (l.count ≡ length out) × Along septets_for l.text l.character-iterator.rest.now out

use Rattle.sms_alphabet.specs.Ucs2.{octets_for}
use Rattle.sms_alphabet.proofs.Characters.{Along}
use Rattle.sms_alphabet.proofs.ucs2.ucs2_of.Given as goal

abbrev pub invariant-loop-character : goal.invariant-loop-character
invariant-loop-character l = Along octets_for l.text l.character-iterator.rest.now l.out

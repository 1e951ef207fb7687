use Rattle.sms_alphabet.specs.Spelling.{septets_for}
use Rattle.sms_alphabet.proofs.Characters.{Along}
use Rattle.sms_alphabet.proofs.spelling.septets_in_text.Given as goal

abbrev pub invariant-loop-character : goal.invariant-loop-character
invariant-loop-character l = Along septets_for l.text l.character-iterator.rest.now l.out

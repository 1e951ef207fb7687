-- Worked rows of headers, computed on the definitions.
use Rattle.std.proofs.Common.{◌≡◌, [], ◌∷◌, Some, Err, refl}
use Rattle.sms_base.specs.Reading.{run_in}
use Rattle.sms_alphabet.specs.declared.concat_key.ConcatKey.{ConcatKey}
use Rattle.sms_alphabet.specs.declared.concat_key.ConcatReference.TheVariants.{EightBit}
use Rattle.sms_alphabet.specs.declared.header_error.HeaderError.TheVariants.{Truncated, BadLength}
use Rattle.sms_alphabet.specs.HeaderGrammar.{elements_behind, header_at}
use Rattle.sms_alphabet.specs.Concatenation.{key_of, key_found}

-- an element with an 8-bit reference
key : ConcatKey
key = record { reference = EightBit 42; total = 2; number = 1 }

key_is_found : key_found (header_at (5 ∷ 0 ∷ 3 ∷ 42 ∷ 2 ∷ 1 ∷ [])) ≡ Some key
unfolding key header_at run_in elements_behind key_of
key_is_found = refl

truncated : header_at (5 ∷ 0 ∷ 3 ∷ 42 ∷ 2 ∷ []) ≡ Err Truncated
unfolding header_at run_in
truncated = refl

identifier_at_the_end : header_at (1 ∷ 0 ∷ 3 ∷ []) ≡ Err BadLength
unfolding header_at run_in elements_behind
identifier_at_the_end = refl

-- Worked rows, computed on the definitions.
use Rattle.std.proofs.Common.{◌≡◌, [], ◌∷◌, ◌++◌, length, map, replicate, Some, None, Ok, Err, true, refl}
use Rattle.sms_alphabet.specs.declared.scheme.Coding.TheVariants.{Septets, Octets, Ucs2}
use Rattle.sms_alphabet.specs.declared.unpacking.UnpackError.TheVariants.{SpareBits}
use Rattle.sms_base.specs.Reading.{run_in}
use Rattle.sms_alphabet.specs.declared.concat_key.ConcatKey.{ConcatKey}
use Rattle.sms_alphabet.specs.declared.concat_key.ConcatReference.TheVariants.{EightBit, SixteenBit}
use Rattle.sms_alphabet.specs.HeaderGrammar.{elements_behind, header_at}
use Rattle.sms_alphabet.specs.Concatenation.{key_of}
use Rattle.sms_concat.specs.UserData.{header_of, content_of, part_in}
use Rattle.sms_concat.specs.Splitting.{filled, pieces_of}

-- an element with an 8-bit reference
key : ConcatKey
key = record { reference = EightBit 42; total = 2; number = 1 }

key_is_written : header_of (Some key) ≡ 5 ∷ 0 ∷ 3 ∷ 42 ∷ 2 ∷ 1 ∷ []
unfolding key
key_is_written = refl

-- one septet, 61, behind that header
septet_is_read : part_in true 0 8 (5 ∷ 0 ∷ 3 ∷ 42 ∷ 2 ∷ 1 ∷ 194 ∷ []) ≡ Ok (record { content = content_of 0 (97 ∷ []); key = Some key })
unfolding key part_in header_at run_in elements_behind key_of
septet_is_read = refl

fill_bit_is_set : part_in true 0 8 (5 ∷ 0 ∷ 3 ∷ 42 ∷ 2 ∷ 1 ∷ 195 ∷ []) ≡ Err SpareBits
unfolding part_in
fill_bit_is_set = refl

-- the header passes TP-UDL: no septet
no_septet : part_in true 0 6 (5 ∷ 5 ∷ 3 ∷ 0 ∷ 0 ∷ 0 ∷ []) ≡ Ok (record { content = content_of 0 []; key = None })
unfolding part_in header_at run_in elements_behind key_of
no_septet = refl

-- nine septets behind a 16-bit header
nine_septets : part_in true 0 17 (6 ∷ 8 ∷ 4 ∷ 0 ∷ 0 ∷ 2 ∷ 2 ∷ 225 ∷ 112 ∷ 56 ∷ 28 ∷ 14 ∷ 135 ∷ 195 ∷ 97 ∷ []) ≡ Ok (record { content = content_of 0 (replicate 9 97); key = Some (record { reference = SixteenBit 0; total = 2; number = 2 }) })
unfolding part_in header_at run_in elements_behind key_of
nine_septets = refl

-- ---- the sizes of parts

sizes_161 : map length (pieces_of Septets (replicate 161 97)) ≡ 152 ∷ 9 ∷ []
unfolding filled
sizes_161 = refl

sizes_esc : map length (pieces_of Septets (replicate 151 97 ++ 27 ∷ replicate 9 97)) ≡ 151 ∷ 10 ∷ []
unfolding filled
sizes_esc = refl

sizes_octets : map length (pieces_of Octets (replicate 141 97)) ≡ 133 ∷ 8 ∷ []
unfolding filled
sizes_octets = refl

sizes_surrogates : map length (pieces_of Ucs2 (replicate 130 97 ++ 216 ∷ 61 ∷ 222 ∷ 0 ∷ replicate 8 97)) ≡ 130 ∷ 12 ∷ []
unfolding filled
sizes_surrogates = refl

-- Keys of headers: their numbers are counted from 1 to their total.
use Rattle.std.proofs.Common.{◌≡◌, ℕ, ◌+◌, ◌*◌, ◌<◌, ◌≤◌, List, [], ◌∷◌, Bool, true, false, cond, eqb, ltb, leb, ◌&&◌, refl, subst, Option, Some, None, Result, Ok, Err}
use Rattle.std.proofs.lemmas.Bool.{and_parts, ltb-true, leb-true}
use Rattle.sms_alphabet.specs.Concatenation.{counted, eight_bit_key, sixteen_bit_key, element_key, later, key_of, IsKey, key_found, header_key}
use Rattle.sms_alphabet.specs.HeaderGrammar.{header_at}
use Rattle.sms_alphabet.specs.declared.concat_key.ConcatKey.{ConcatKey}
use Rattle.sms_alphabet.specs.declared.concat_key.ConcatReference.{ConcatReference}
use Rattle.sms_alphabet.specs.declared.concat_key.ConcatReference.TheVariants.{EightBit, SixteenBit}
use Rattle.sms_alphabet.specs.declared.element.Element.{Element}
use Rattle.sms_alphabet.specs.declared.header_error.HeaderError.{HeaderError}

counted_bounds : (r : ConcatReference) (total number : ℕ) → IsKey (counted r total number)
counted_bounds r total number = at (ltb 0 number && leb number total) (λ t. and_parts (ltb 0 number) (leb number total) t)
  where
    at : (b : Bool) → (b ≡ true → (ltb 0 number ≡ true) × (leb number total ≡ true)) → IsKey (cond b (Some (record { reference = r; total = total; number = number })) None)
    at true both = let two = both refl in (ltb-true 0 number two.0, leb-true number total two.1)
    at false both = tt

eight_bounds : (o : List ℕ) → IsKey (eight_bit_key o)
eight_bounds (reference ∷ total ∷ number ∷ []) = counted_bounds (EightBit reference) total number
eight_bounds o = tt

sixteen_bounds : (o : List ℕ) → IsKey (sixteen_bit_key o)
sixteen_bounds (high ∷ low ∷ total ∷ number ∷ []) = counted_bounds (SixteenBit (256 * high + low)) total number
sixteen_bounds o = tt

element_bounds : (x : Element) → IsKey (element_key x)
element_bounds x = at (eqb x.identifier 0) (eqb x.identifier 8)
  where
    at : (b c : Bool) → IsKey (cond b (eight_bit_key x.octets) (cond c (sixteen_bit_key x.octets) None))
    at true c = eight_bounds x.octets
    at false true = sixteen_bounds x.octets
    at false false = tt

later_bounds : (a b : Option ConcatKey) → IsKey a → IsKey b → IsKey (later a b)
later_bounds a None h k = h
later_bounds a (Some key) h k = k

pub key_bounds : (es : List Element) → IsKey (key_of es)
unfolding key_of
key_bounds [] = tt
key_bounds (x ∷ es) = later_bounds (element_key x) (key_of es) (element_bounds x) (key_bounds es)

pub header_bounds : (b : Bool) (o : List ℕ) → IsKey (header_key b o)
header_bounds false o = tt
header_bounds true o = at (header_at o)
  where
    at : (r : Result (List Element) HeaderError) → IsKey (key_found r)
    at (Ok es) = key_bounds es
    at (Err f) = tt

pub header_counts : (b : Bool) (o : List ℕ) (key : ConcatKey) → header_key b o ≡ Some key → (0 < key.number) × (key.number ≤ key.total)
header_counts b o key e = subst IsKey e (header_bounds b o)

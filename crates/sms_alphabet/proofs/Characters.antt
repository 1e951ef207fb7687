-- Walking through a text, character by character.
use Rattle.std.proofs.Common.{Bool, true, false, cond, ltb, ◌-◌, ◌/◌, ◌%◌, ◌≡◌, ℕ, ◌+◌, ◌*◌, ◌≤◌, List, [], ◌∷◌, ◌++◌, length, flat_map, Option, Some, None, refl, sym, ap, ◌∙◌, arith}
use Rattle.std.specs.Str.{chars, IsUtf8, encode_utf8_all}
use Rattle.std.specs.Char.{encode_utf8, len_utf8}
use Rattle.std.proofs.lemmas.Bool.{ltb-false, le-ltb}
use Rattle.std.proofs.lemmas.List.{length-append, append_assoc, append-nil}
use Rattle.std.proofs.lemmas.Str.{chars_past_char, IsUtf8-past_char, chars-nil, length-encode, len_utf8_bounds, encodes-chars}
use Rattle.sms_base.specs.declared.alphabet.Code.{Code}
use Rattle.sms_base.specs.declared.alphabet.Code.TheVariants.{Main, Extended}
use Rattle.sms_base.specs.Alphabet.{code_for}
use Rattle.sms_alphabet.specs.Spelling.{septets_for, septets_of_code}
use Rattle.sms_alphabet.specs.Ucs2.{unit_octets, octets_for}

-- What is put out so far, and what the rest of the text puts out, are what the whole text puts out.
pub record Along (put : ℕ → List ℕ) (text rest out : List ℕ) : Type 0 where
  pub utf8 : IsUtf8 rest
  pub whole : out ++ flat_map put (chars rest) ≡ flat_map put (chars text)

pub along_start : (put : ℕ → List ℕ) (text : List ℕ) → IsUtf8 text → Along put text text []
along_start put text u = record { utf8 = u; whole = refl }

-- a turn
pub along_turn : (put : ℕ → List ℕ) (text rest out : List ℕ) (character : ℕ) (later : List ℕ) → Along put text rest out → rest ≡ encode_utf8 character ++ later → Along put text later (out ++ put character)
along_turn put text rest out character later a e =
    let split : chars rest ≡ character ∷ chars later = chars_past_char rest later character a.utf8 e in
    let regroup : out ++ (put character ++ flat_map put (chars later)) ≡ out ++ flat_map put (chars rest) = ap (λ (cs : List ℕ). out ++ flat_map put cs) (sym split) in
    record { utf8 = IsUtf8-past_char rest later character a.utf8 e; whole = simp append_assoc (regroup ∙ a.whole) }

-- the end
pub along_end : (put : ℕ → List ℕ) (text rest out : List ℕ) → Along put text rest out → length rest ≡ 0 → out ≡ flat_map put (chars text)
along_end put text [] out a e = let none : chars [] ≡ [] = chars-nil in simp append-nil at (ap (λ (cs : List ℕ). out ++ flat_map put cs) (sym none)) ∙ a.whole
along_end put text (x ∷ rest) out a e = absurd (omega arith)

-- how much is put out before the end
pub along_within : (put : ℕ → List ℕ) (text rest out : List ℕ) (character : ℕ) (later : List ℕ) → Along put text rest out → rest ≡ encode_utf8 character ++ later → length out + length (put character) ≤ length (flat_map put (chars text))
along_within put text rest out character later a e =
    let next = along_turn put text rest out character later a e in
    let whole : length ((out ++ put character) ++ flat_map put (chars later)) ≡ length (flat_map put (chars text)) = ap length next.whole in
    let one : length ((out ++ put character) ++ flat_map put (chars later)) ≡ length (out ++ put character) + length (flat_map put (chars later)) = length-append (out ++ put character) (flat_map put (chars later)) in
    omega (arith, length-append out (put character))

code_length : (code : Option Code) → length (septets_of_code code) ≤ 2
code_length None = omega arith
code_length (Some (Main s)) = omega arith
code_length (Some (Extended s)) = omega arith

character_length : (character : ℕ) → length (septets_for character) ≤ 2
unfolding septets_for
character_length character = code_length (code_for character)

few : (put : ℕ → List ℕ) → ((c : ℕ) → length (put c) ≤ 2 * length (encode_utf8 c)) → (cs : List ℕ) → length (flat_map put cs) ≤ 2 * length (encode_utf8_all cs)
few put each [] = omega arith
few put each (c ∷ cs) = omega (arith, length-append (put c) (flat_map put cs), length-append (encode_utf8 c) (encode_utf8_all cs), each c, few put each cs)

bound : (put : ℕ → List ℕ) → ((c : ℕ) → length (put c) ≤ 2 * length (encode_utf8 c)) → (text : List ℕ) → IsUtf8 text → length (flat_map put (chars text)) ≤ 2 * length text
bound put each text u = omega (arith, few put each (chars text), ap length (encodes-chars text u))

-- a text has at most two septets for each of its octets
pub septets_bound : (text : List ℕ) → IsUtf8 text → length (flat_map septets_for (chars text)) ≤ 2 * length text
septets_bound = bound septets_for (λ c. omega (arith, character_length c, length-encode c, len_utf8_bounds c))

-- a character has at most two octets of UCS2 for each octet of UTF-8
long : (c : ℕ) (b : Bool) → ltb c 65536 ≡ b → length (flat_map unit_octets (cond b (c ∷ []) ((0xD800 + (c - 65536) / 0x400) ∷ (0xDC00 + (c - 65536) % 0x400) ∷ []))) ≤ 2 * len_utf8 c
long c true t = omega (arith, len_utf8_bounds c)
long c false t =
    let above : 65536 ≤ c = ltb-false c 65536 t in
    rw (le-ltb c 128 (omega arith), le-ltb c 2048 (omega arith), t) (omega arith)

octets_length : (c : ℕ) → length (octets_for c) ≤ 2 * length (encode_utf8 c)
unfolding octets_for
octets_length c = rw (length-encode c) (long c (ltb c 65536) refl)

pub octets_bound : (text : List ℕ) → IsUtf8 text → length (flat_map octets_for (chars text)) ≤ 2 * length text
octets_bound = bound octets_for octets_length

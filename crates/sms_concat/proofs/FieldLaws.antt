-- The user data fields: what is read of them, and that what was written is read again.
use Rattle.std.proofs.Common.{◌≡◌, ℕ, suc, ◌+◌, ◌-◌, ◌*◌, ◌/◌, ◌%◌, ◌<◌, ◌≤◌, Bool, true, false, cond, ltb, List, [], ◌∷◌, ◌++◌, length, drop, Result, Ok, Err, Option, Some, None, refl, sym, ap, subst, ◌∙◌, arith}
use Rattle.std.proofs.lemmas.Bool.{le-ltb, lt-ltb, le-leb}
use Rattle.std.proofs.lemmas.List.{drop_at, length-append}
use Rattle.sms_base.specs.Reading.{◌>>=◌}
use Rattle.sms_base.proofs.Steps.{bind_ok, ok_is}
use Rattle.sms_alphabet.specs.Packing.{IsPacking, AreSeptets}
use Rattle.sms_alphabet.proofs.RoundTrip.{packed_is_read}
use Rattle.sms_alphabet.specs.DataCodingScheme.{coding_of}
use Rattle.sms_alphabet.specs.declared.scheme.Coding.{Coding}
use Rattle.sms_alphabet.specs.declared.scheme.Coding.TheVariants.{Septets, Octets, Ucs2, Compressed}
use Rattle.sms_alphabet.specs.declared.unpacking.UnpackError.{UnpackError}
use Rattle.sms_alphabet.specs.declared.unpacking.UnpackError.TheVariants.{TooShort, SpareBits, NoMemory}
use Rattle.sms_alphabet.specs.declared.concat_key.ConcatKey.{ConcatKey}
use Rattle.sms_alphabet.specs.declared.concat_key.ConcatReference.{ConcatReference}
use Rattle.sms_alphabet.specs.declared.concat_key.ConcatReference.TheVariants.{EightBit, SixteenBit}
use Rattle.sms_concat.specs.declared.content.Part.{Part}
use Rattle.sms_concat.specs.declared.content.UserData.{UserData}
use Rattle.sms_alphabet.specs.HeaderGrammar.{spelled, written, header_at}
use Rattle.sms_alphabet.specs.Concatenation.{key_of, element_key, counted, IsKey, key_found, header_key}
use Rattle.sms_concat.specs.UserData.{header_septets, fill_bits, data_length, key_element, header_of, is_there, IsBody, IsUserData, AreUnits, IsPart, header_size, octets_behind, septets_behind, units_behind, part_in, AnswersPartRead, Tests, content_of}
use Rattle.sms_alphabet.proofs.Elements.{written_is_read}

-- ---- faults

pub fault_goes_on : {X Y : Type 0} (e : UnpackError) (r : Result X UnpackError) (f : X → Result Y UnpackError) → r ≡ Err e → (r >>= f) ≡ Err e
fault_goes_on e r f p = ap (λ m. m >>= f) p

pub answers_bind : {X Y : Type 0} (e : UnpackError) (r : Result X UnpackError) (f : X → Y) → AnswersPartRead (Err e) r → AnswersPartRead (Err e) (r >>= (λ x. Ok (f x)))
answers_bind NoMemory r f p = (f p.0, ap (λ m. m >>= (λ x. Ok (f x))) p.1)
answers_bind TooShort r f p = ap (λ m. m >>= (λ x. Ok (f x))) p
answers_bind SpareBits r f p = ap (λ m. m >>= (λ x. Ok (f x))) p

pub tests_bind : {X Y : Type 0} (t : Result (Unit {0}) UnpackError) (r : Result X UnpackError) (f : X → Y) → Tests t r → Tests t (r >>= (λ x. Ok (f x)))
tests_bind (Ok done) r f p = (f p.0, ap (λ m. m >>= (λ x. Ok (f x))) p.1)
tests_bind (Err e) r f p = ap (λ m. m >>= (λ x. Ok (f x))) p

size_fault : (indicator : Bool) (octets : List ℕ) (e : UnpackError) → Err e ≡ header_size indicator octets → e ≡ TooShort
size_fault false octets e p = absurd cc
size_fault true [] e p = cc
size_fault true (size ∷ rest) e p = more (ltb (length rest) size) p where
  more : (b : Bool) → Err e ≡ cond b (Err TooShort) (Ok (size + 1)) → e ≡ TooShort
  more true q = cc
  more false q = absurd cc

-- ---- what is read

part_with_units : Bool → ℕ → List ℕ → List ℕ → Part
part_with_units indicator dcs octets units = record { content = content_of dcs units; key = header_key indicator octets }

at_size : (indicator : Bool) (dcs total : ℕ) (octets : List ℕ) (r : Result ℕ UnpackError) → r ≡ header_size indicator octets → part_in indicator dcs total octets ≡ (r >>= (λ header. units_behind (coding_of dcs) header total (drop header octets) >>= (λ units. Ok (part_with_units indicator dcs octets units))))
unfolding part_in part_with_units
at_size indicator dcs total octets r p = ap (λ (m : Result ℕ UnpackError). m >>= (λ header. units_behind (coding_of dcs) header total (drop header octets) >>= (λ units. Ok (part_with_units indicator dcs octets units)))) (sym p)

pub part_refused : (indicator : Bool) (dcs total : ℕ) (octets : List ℕ) (e : UnpackError) → Err e ≡ header_size indicator octets → part_in indicator dcs total octets ≡ Err e
part_refused indicator dcs total octets e p = at_size indicator dcs total octets (Err e) p

pub part_short : (indicator : Bool) (dcs total : ℕ) (octets : List ℕ) (e : UnpackError) → Err e ≡ header_size indicator octets → AnswersPartRead (Err e) (part_in indicator dcs total octets)
part_short indicator dcs total octets e p =
    let short : TooShort ≡ e = sym (size_fault indicator octets e p) in
    let q : part_in indicator dcs total octets ≡ Err TooShort = part_refused indicator dcs total octets e p ∙ ap Err (sym short) in
    subst (λ (f : UnpackError). AnswersPartRead (Err f) (part_in indicator dcs total octets)) short q

units_at : (indicator : Bool) (dcs total : ℕ) (octets : List ℕ) (header : ℕ) (coding : Coding) → Ok header ≡ header_size indicator octets → coding ≡ coding_of dcs → part_in indicator dcs total octets ≡ (units_behind coding header total (drop header octets) >>= (λ units. Ok (part_with_units indicator dcs octets units)))
units_at indicator dcs total octets header coding s cd =
    at_size indicator dcs total octets (Ok header) s ∙ ap (λ (k : Coding). units_behind k header total (drop header octets) >>= (λ units. Ok (part_with_units indicator dcs octets units))) (sym cd)

pub part_faulty : (indicator : Bool) (dcs total : ℕ) (octets : List ℕ) (header : ℕ) (coding : Coding) (e : UnpackError) → Ok header ≡ header_size indicator octets → coding ≡ coding_of dcs → AnswersPartRead (Err e) (units_behind coding header total (drop header octets)) → AnswersPartRead (Err e) (part_in indicator dcs total octets)
part_faulty indicator dcs total octets header coding e s cd a =
    subst (λ (w : Result Part UnpackError). AnswersPartRead (Err e) w) (sym (units_at indicator dcs total octets header coding s cd)) (answers_bind e (units_behind coding header total (drop header octets)) (part_with_units indicator dcs octets) a)

pub part_tested : (indicator : Bool) (dcs total : ℕ) (octets : List ℕ) (header : ℕ) (coding : Coding) (t : Result (Unit {0}) UnpackError) → Ok header ≡ header_size indicator octets → coding ≡ coding_of dcs → Tests t (units_behind coding header total (drop header octets)) → Tests t (part_in indicator dcs total octets)
part_tested indicator dcs total octets header coding t s cd a =
    subst (λ (w : Result Part UnpackError). Tests t w) (sym (units_at indicator dcs total octets header coding s cd)) (tests_bind t (units_behind coding header total (drop header octets)) (part_with_units indicator dcs octets) a)

pub part_made : (indicator : Bool) (dcs total : ℕ) (octets : List ℕ) (header : ℕ) (coding : Coding) (units : List ℕ) (key : Option ConcatKey) → Ok header ≡ header_size indicator octets → coding ≡ coding_of dcs → units_behind coding header total (drop header octets) ≡ Ok units → key ≡ header_key indicator octets
    → part_in indicator dcs total octets ≡ Ok (record { content = record { coding = coding; dcs = dcs; units = units }; key = key })
unfolding part_in
part_made indicator dcs total octets header coding units key s cd u k =
    let v : units_behind (coding_of dcs) header total (drop header octets) ≡ Ok units = ap (λ (x : Coding). units_behind x header total (drop header octets)) (sym cd) ∙ u in
    let f : List ℕ → Result Part UnpackError = λ xs. Ok (record { content = content_of dcs xs; key = header_key indicator octets }) in
    let one : part_in indicator dcs total octets ≡ (units_behind (coding_of dcs) header total (drop header octets) >>= f) = ap (λ (m : Result ℕ UnpackError). m >>= (λ h. units_behind (coding_of dcs) h total (drop h octets) >>= f)) (sym s) in
    let two : (units_behind (coding_of dcs) header total (drop header octets) >>= f) ≡ f units = ap (λ (m : Result (List ℕ) UnpackError). m >>= f) v in
    let made : Coding → Option ConcatKey → Part = λ x y. record { content = record { coding = x; dcs = dcs; units = units }; key = y } in
    let three : made (coding_of dcs) (header_key indicator octets) ≡ made coding key = ap (λ (x : Coding). made x (header_key indicator octets)) (sym cd) ∙ ap (λ (y : Option ConcatKey). made coding y) (sym k) in
    one ∙ two ∙ ap Ok three

-- ---- what was written is read

same_length : (n : ℕ) → ltb n n ≡ false
same_length n = le-ltb n n (omega arith)

octets_again : (header : ℕ) (units : List ℕ) → octets_behind header (header + length units) units ≡ Ok units
octets_again header units = rw (same_length (header + length units)) refl

pub octets_exact : (header total : ℕ) (octets : List ℕ) → total ≡ header + length octets → octets_behind header total octets ≡ Ok octets
octets_exact header total octets e = ap (λ (n : ℕ). octets_behind header n octets) e ∙ octets_again header octets

septets_again : (header : ℕ) (units packed : List ℕ) → AreSeptets units → IsPacking units (fill_bits header) packed → septets_behind header (header_septets header + length units) packed ≡ Ok units
septets_again header units packed small h =
    let past : ltb (header_septets header + length units) (header_septets header) ≡ false = le-ltb _ _ (let g : header_septets header ≤ header_septets header + length units = omega arith in g) in
    let count : (header_septets header + length units) - header_septets header ≡ length units = omega arith in
    rw (past, count) (packed_is_read units packed (fill_bits header) small h)

pub units_again : (coding : Coding) (header units octets : List ℕ) → AreUnits coding units → IsBody coding header units octets
    → (body : List ℕ) × (octets ≡ header ++ body) × (units_behind coding (length header) (data_length coding (length header) (length units)) body ≡ Ok units)
units_again Septets header units octets small b = (b.0, b.2, septets_again (length header) units b.0 small b.1)
units_again Octets header units octets small b = (units, b, octets_again (length header) units)
units_again Ucs2 header units octets small b = (units, b, octets_again (length header) units)
units_again Compressed header units octets small b = (units, b, octets_again (length header) units)

size_with : (front body : List ℕ) → header_size true (length front ∷ (front ++ body)) ≡ Ok (length front + 1)
size_with front body =
    let long : ltb (length (front ++ body)) (length front) ≡ false = le-ltb _ _ (let h : length front ≤ length (front ++ body) = omega (arith, length-append front body) in h) in
    rw long refl

pub size_again : (key : Option ConcatKey) (body : List ℕ) → header_size (is_there (header_of key)) (header_of key ++ body) ≡ Ok (length (header_of key))
size_again None body = refl
size_again (Some key) body =
    let front = spelled (key_element key.reference key.total key.number ∷ []) in
    size_with front body ∙ ap Ok (let e : length front + 1 ≡ suc (length front) = omega arith in e)

counted_again : (reference : ConcatReference) (total number : ℕ) → 0 < number → number ≤ total → counted reference total number ≡ Some (record { reference = reference; total = total; number = number })
counted_again reference total number low high = rw (lt-ltb 0 number low, le-leb number total high) refl

element_again : (reference : ConcatReference) (total number : ℕ) → 0 < number → number ≤ total → element_key (key_element reference total number) ≡ Some (record { reference = reference; total = total; number = number })
element_again (EightBit r) total number low high = counted_again (EightBit r) total number low high
element_again (SixteenBit r) total number low high =
    let whole : 256 * (r / 256) + r % 256 ≡ r = omega arith in
    ap (λ (n : ℕ). counted (SixteenBit n) total number) whole ∙ counted_again (SixteenBit r) total number low high

pub key_again : (key : Option ConcatKey) (body : List ℕ) → IsKey key → header_key (is_there (header_of key)) (header_of key ++ body) ≡ key
unfolding key_of
key_again None body k = refl
key_again (Some key) body k =
    let e = key_element key.reference key.total key.number in
    let read : header_at (written (e ∷ []) ++ body) ≡ Ok (e ∷ []) = written_is_read (e ∷ []) body in
    ap key_found read ∙ element_again key.reference key.total key.number k.0 k.1

pub part_again : (part : Part) (user : UserData) → IsPart part → IsUserData (header_of part.key) part.content user → part_in user.header_indicator part.content.dcs user.length user.octets ≡ Ok part
part_again part user p u =
    let header = header_of part.key in
    let b = units_again part.content.coding header part.content.units user.octets p.units u.body_is in
    let octets : user.octets ≡ header ++ b.0 = b.1 in
    let behind : drop (length header) (header ++ b.0) ≡ b.0 = drop_at header b.0 (length header) refl in
    let size : Ok (length header) ≡ header_size user.header_indicator user.octets = sym (ap (λ (i : Bool). header_size i user.octets) u.indicator_is ∙ ap (λ (xs : List ℕ). header_size (is_there header) xs) octets ∙ size_again part.key b.0) in
    let key : part.key ≡ header_key user.header_indicator user.octets = sym (ap (λ (i : Bool). header_key i user.octets) u.indicator_is ∙ ap (λ (xs : List ℕ). header_key (is_there header) xs) octets ∙ key_again part.key b.0 p.key_is) in
    let units : units_behind part.content.coding (length header) user.length (drop (length header) user.octets) ≡ Ok part.content.units =
    ap (λ (n : ℕ). units_behind part.content.coding (length header) n (drop (length header) user.octets)) u.length_is
    ∙ ap (λ (xs : List ℕ). units_behind part.content.coding (length header) (data_length part.content.coding (length header) (length part.content.units)) xs) (ap (λ (xs : List ℕ). drop (length header) xs) octets ∙ behind) ∙ b.2 in
    part_made user.header_indicator part.content.dcs user.length user.octets (length header) part.content.coding part.content.units part.key size p.coding_is units key

-- ---- what a part that is read says

abbrev Says : Bool → ℕ → List ℕ → Part → Type 0
Says indicator dcs octets part = (part.content.dcs ≡ dcs) × (part.content.coding ≡ coding_of dcs) × (part.key ≡ header_key indicator octets)

pub read_says : (indicator : Bool) (dcs total : ℕ) (octets : List ℕ) (part : Part) → part_in indicator dcs total octets ≡ Ok part → Says indicator dcs octets part
unfolding part_in
read_says indicator dcs total octets part e =
    let header = bind_ok (header_size indicator octets) _ part e in
    let units = bind_ok (units_behind (coding_of dcs) header.0 total (drop header.0 octets)) _ part header.2 in
    subst (λ (p : Part). Says indicator dcs octets p) (ok_is {E = UnpackError} (record { content = content_of dcs units.0; key = header_key indicator octets }) part units.2) (refl, refl, refl)

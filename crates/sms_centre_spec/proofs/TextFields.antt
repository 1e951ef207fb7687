-- A content that has room behind a header is user data of its data coding scheme.
use Rattle.std.proofs.Common.{◌≡◌, ℕ, suc, ◌+◌, ◌-◌, ◌*◌, ◌^◌, ◌≤◌, List, [], ◌++◌, length, length-append, drop, true, refl, sym, ◌∙◌, ap, subst, ⊎_elim, arith}
use Rattle.std.specs.Prelude.{◌⊎◌, nat_le}
use Rattle.std.proofs.lemmas.Bool.{le-leb}
use Rattle.sms_base.proofs.Lists.{drop_behind}
use Rattle.sms_alphabet.specs.declared.scheme.Coding.{Coding}
use Rattle.sms_alphabet.specs.declared.scheme.Coding.TheVariants.{Septets, Octets, Ucs2, Compressed}
use Rattle.sms_alphabet.specs.Packing.{AreSeptets, IsPacking, digits_in, packed_len, value_in}
use Rattle.sms_alphabet.proofs.RoundTrip.{length-digits}
use Rattle.sms_alphabet.proofs.Packed.{packed_value, value_in-digits}
use Rattle.sms_alphabet.specs.declared.element.Element.{Element}
use Rattle.sms_alphabet.specs.HeaderGrammar.{spelled, written}
use Rattle.sms_concat.specs.UserData.{AreUnits, body_octets, capacity, data_length, fill_bits, header_septets, is_there}
use Rattle.sms_tpdu.specs.UserDataGrammar.{HasHeader, IsContentBehind, IsPackedBehind, IsUserData, fill_behind, greatest_length, header_octets, octets_of}

-- ---- septets packed behind fill bits

-- the units behind the header, as they are packed
rest_of : List ℕ → Coding → List ℕ → List ℕ
rest_of header Septets units = digits_in 256 (packed_len (fill_bits (length header)) (length units)) (2 ^ fill_bits (length header) * value_in 128 units)
rest_of header Octets units = units
rest_of header Ucs2 units = units
rest_of header Compressed units = units

begins : (header : List ℕ) (coding : Coding) (units : List ℕ) → body_octets header coding units ≡ header ++ rest_of header coding units
unfolding rest_of
begins header Septets units = refl
begins header Octets units = refl
begins header Ucs2 units = refl
begins header Compressed units = refl

-- ---- a header: none, or one that elements fill

abbrev pub IsHeader : List ℕ → Type 0
IsHeader header = (header ≡ []) ⊎ ((elements : List Element) × (header ≡ written elements))

has_header : (header rest : List ℕ) → IsHeader header → HasHeader (is_there header) (header ++ rest)
has_header header rest is = ⊎_elim
    (λ (e : header ≡ []). subst (λ (h : List ℕ). HasHeader (is_there h) (h ++ rest)) (sym e) tt)
    (λ (e : (elements : List Element) × (header ≡ written elements)).
    let front : List ℕ = spelled e.0 in
    let long : length front ≤ length (front ++ rest) = omega (arith, length-append front rest) in
    subst (λ (h : List ℕ). HasHeader (is_there h) (h ++ rest)) (sym e.1) long)
    is

header_long : (header rest : List ℕ) → IsHeader header → header_octets (is_there header) (header ++ rest) ≡ length header
header_long header rest is = ⊎_elim
    (λ (e : header ≡ []). subst (λ (h : List ℕ). header_octets (is_there h) (h ++ rest) ≡ length h) (sym e) refl)
    (λ (e : (elements : List Element) × (header ≡ written elements)).
    let front : List ℕ = spelled e.0 in
    let same : length front + 1 ≡ suc (length front) = omega arith in
    subst (λ (h : List ℕ). header_octets (is_there h) (h ++ rest) ≡ length h) (sym e.1) same)
    is

-- ---- the fields

whole : (header : List ℕ) (coding : Coding) (units : List ℕ) → length (body_octets header coding units) ≡ octets_of coding (data_length coding (length header) (length units))
whole header Septets units =
    let fill = fill_bits (length header) in
    let body : List ℕ = digits_in 256 (packed_len fill (length units)) (2 ^ fill * value_in 128 units) in
    let long : length (header ++ body) ≡ length header + length body = length-append header body in
    let count : length body ≡ packed_len fill (length units) = length-digits 256 (packed_len fill (length units)) (2 ^ fill * value_in 128 units) in
    omega (arith, long, count)
whole header Octets units = length-append header units
whole header Ucs2 units = length-append header units
whole header Compressed units = length-append header units

within : (coding : Coding) (n : ℕ) → n ≤ capacity coding → n ≤ greatest_length coding
within Septets n h = h
within Octets n h = h
within Ucs2 n h = h
within Compressed n h = h

packed_so : (header units octets : List ℕ) → octets ≡ body_octets header Septets units → AreSeptets units → IsPackedBehind (length header) (header_septets (length header) + length units) octets
packed_so header units octets o small =
    let n = header_septets (length header) + length units in
    let bits = fill_bits (length header) in
    let body : List ℕ = digits_in 256 (packed_len bits (length units)) (2 ^ bits * value_in 128 units) in
    let room : nat_le (header_septets (length header)) n ≡ true = le-leb _ _ (let g : header_septets (length header) ≤ n = omega arith in g) in
    let fill : fill_behind (length header) n ≡ bits = rw room refl in
    let rest : drop (length header) octets ≡ body = ap (λ (xs : List ℕ). drop (length header) xs) o ∙ drop_behind header body in
    let count : length units ≡ n - header_septets (length header) = omega arith in
    let packing : IsPacking units bits body = record { length_is = length-digits 256 (packed_len bits (length units)) (2 ^ bits * value_in 128 units); value_is = value_in-digits (packed_len bits (length units)) (2 ^ bits * value_in 128 units) (packed_value bits units small) } in
    (units, small, count, subst (λ (f : ℕ). IsPacking units f (drop (length header) octets)) (sym fill) (subst (λ (xs : List ℕ). IsPacking units bits xs) (sym rest) packing))

behind : (header : List ℕ) (coding : Coding) (units octets : List ℕ) → octets ≡ body_octets header coding units → AreUnits coding units → IsContentBehind coding (length header) (data_length coding (length header) (length units)) octets
behind header Septets units octets e small = packed_so header units octets e small
behind header Octets units octets e small = tt
behind header Ucs2 units octets e small = tt
behind header Compressed units octets e small = tt

pub fields_are : (header : List ℕ) (coding : Coding) (units : List ℕ) → IsHeader header → AreUnits coding units → data_length coding (length header) (length units) ≤ capacity coding
    → IsUserData coding (is_there header) (record { length = data_length coding (length header) (length units); octets = body_octets header coding units })
fields_are header coding units is small room =
    let octets : List ℕ = body_octets header coding units in
    let rest : List ℕ = rest_of header coding units in
    let front : octets ≡ header ++ rest = begins header coding units in
    let size : header_octets (is_there header) octets ≡ length header = ap (λ (xs : List ℕ). header_octets (is_there header) xs) front ∙ header_long header rest is in
    record {
      within = within coding (data_length coding (length header) (length units)) room;
      whole = whole header coding units;
      header = subst (λ (xs : List ℕ). HasHeader (is_there header) xs) (sym front) (has_header header rest is);
      content = subst (λ (k : ℕ). IsContentBehind coding k (data_length coding (length header) (length units)) octets) (sym size) (behind header coding units octets refl small);
    }

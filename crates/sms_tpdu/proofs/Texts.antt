-- User data that is read is in the grammar, and what is in the grammar is read.
use Rattle.std.proofs.Common.{◌≡◌, ℕ, zero, suc, ◌-◌, ◌<◌, Bool, true, false, not, ◌||◌, ltb, leb, List, [], ◌∷◌, ◌++◌, length, take, drop, Result, Ok, Err, refl, sym, ap, subst, ◌∙◌, arith}
use Rattle.std.proofs.lemmas.Bool.{ltb-true, leb-true, lt-ltb, le-leb}
use Rattle.std.proofs.lemmas.List.{take_at}
use Rattle.sms_base.specs.Reading.{only_if, octet_in, AreOctets}
use Rattle.sms_base.proofs.Steps.{bind_ok, passes, ok_is, octet_takes, run_takes, run_again}
use Rattle.sms_base.proofs.OctetLaws.{octets_behind}
use Rattle.sms_alphabet.specs.Packing.{tested, unpacked, and_then, septets_in}
use Rattle.sms_alphabet.specs.declared.scheme.Coding.{Coding}
use Rattle.sms_alphabet.specs.declared.scheme.Coding.TheVariants.{Septets, Octets, Ucs2, Compressed}
use Rattle.sms_alphabet.specs.declared.unpacking.UnpackError.{UnpackError}
use Rattle.sms_alphabet.specs.declared.unpacking.UnpackError.TheVariants.{TooShort, SpareBits as BitsOutside, NoMemory}
use Rattle.sms_alphabet.proofs.RoundTrip.{packed_is_read, read_was_packed}
use Rattle.sms_tpdu.specs.declared.fault.TpduFault.{TpduFault}
use Rattle.sms_tpdu.specs.declared.fault.TpduFault.TheVariants.{Truncated, UserDataTooLong, BadHeader}
use Rattle.sms_tpdu.specs.declared.user_data.UserData.{UserData}
use Rattle.sms_tpdu.specs.UserDataGrammar.{greatest_length, octets_of, header_octets, header_septets, fill_behind, IsContentBehind, HasHeader, IsUserData, user_data_field}
use Rattle.sms_tpdu.specs.UserDataReading.{header_fits, of_test, content_test, text_test, text_in, user_data_in}

-- ---- what stands behind the header

pub test_is : (r : Result (Unit {0}) UnpackError) (x : Unit {0}) → of_test r ≡ Ok x → r ≡ Ok tt
test_is (Ok y) x e = refl
test_is (Err TooShort) x e = absurd cc
test_is (Err BitsOutside) x e = absurd cc
test_is (Err NoMemory) x e = absurd cc

content_takes : (coding : Coding) (header n : ℕ) (text : List ℕ) (x : Unit {0}) → content_test coding header n text ≡ Ok x → IsContentBehind coding header n text
content_takes Septets header n text x e =
    let behind = drop header text in
    let fill = fill_behind header n in
    let m = n - header_septets header in
    let test : tested behind fill m ≡ Ok tt = test_is _ x e in
    let whole : unpacked behind fill m ≡ Ok (septets_in behind fill m) = rw test refl in
    let p = read_was_packed behind (septets_in behind fill m) fill m whole in
    (septets_in behind fill m, p.2, p.1, p.0)
content_takes Octets header n text x e = tt
content_takes Ucs2 header n text x e = tt
content_takes Compressed header n text x e = tt

ok_tested : (r : Result (Unit {0}) UnpackError) (s t : List ℕ) → and_then r s ≡ Ok t → r ≡ Ok tt
ok_tested (Ok y) s t e = refl
ok_tested (Err f) s t e = absurd cc

content_again : (coding : Coding) (header n : ℕ) (text : List ℕ) → IsContentBehind coding header n text → content_test coding header n text ≡ Ok tt
content_again Septets header n text (septets, small, len, packed) =
    let behind = drop header text in
    let fill = fill_behind header n in
    let test : tested behind fill (length septets) ≡ Ok tt = ok_tested (tested behind fill (length septets)) (septets_in behind fill (length septets)) septets (packed_is_read septets behind fill small packed) in
    let here : tested behind fill (n - header_septets header) ≡ Ok tt = ap (tested behind fill) (sym len) ∙ test in
    rw here refl
content_again Octets header n text h = refl
content_again Ucs2 header n text h = refl
content_again Compressed header n text h = refl

-- ---- the header

no_octets : (coding : Coding) → octets_of coding 0 ≡ 0
no_octets Septets = refl
no_octets Octets = refl
no_octets Ucs2 = refl
no_octets Compressed = refl

some_octets : (coding : Coding) (n : ℕ) → 0 < n → 0 < octets_of coding n
some_octets Septets n lt = omega arith
some_octets Octets n lt = lt
some_octets Ucs2 n lt = lt
some_octets Compressed n lt = lt

header_takes : (coding : Coding) (with_header : Bool) (n : ℕ) (text : List ℕ) → length text ≡ octets_of coding n → not with_header || ltb 0 n ≡ true → header_fits with_header (octets_of coding n) text ≡ true → HasHeader with_header text
header_takes coding false n text len some fits = tt
header_takes coding true n [] len some fits = absurd (omega (arith, some_octets coding n (ltb-true 0 n some)))
header_takes coding true n (elements ∷ rest) len some fits = omega (arith, ltb-true elements (octets_of coding n) fits)

header_again : (coding : Coding) (with_header : Bool) (n : ℕ) (text : List ℕ) → length text ≡ octets_of coding n → HasHeader with_header text → header_fits with_header (octets_of coding n) text ≡ true
header_again coding false n text len h = refl
header_again coding true n [] len h = absurd h
header_again coding true n (elements ∷ rest) len h = lt-ltb elements (octets_of coding n) (omega arith)

positive : (coding : Coding) (n k : ℕ) → suc k ≡ octets_of coding n → 0 < n
positive coding zero k e = absurd (omega (arith, no_octets coding))
positive coding (suc n) k e = omega arith

some_again : (coding : Coding) (with_header : Bool) (n : ℕ) (text : List ℕ) → length text ≡ octets_of coding n → HasHeader with_header text → not with_header || ltb 0 n ≡ true
some_again coding false n text len h = refl
some_again coding true n [] len h = absurd h
some_again coding true n (elements ∷ rest) len h = lt-ltb 0 n (positive coding n (length rest) len)

-- ---- the octets

pub record TakesText (coding : Coding) (with_header : Bool) (n : ℕ) (xs text rest : List ℕ) : Type 0 where
  pub parts : xs ≡ text ++ rest
  pub len : length text ≡ octets_of coding n
  pub header : header_fits with_header (octets_of coding n) text ≡ true
  pub content : IsContentBehind coding (header_octets with_header text) n text

text_takes : (coding : Coding) (with_header : Bool) (n : ℕ) (xs : List ℕ) (x : List ℕ × List ℕ) → text_in coding with_header n xs ≡ Ok x → TakesText coding with_header n xs x.0 x.1
unfolding text_in text_test
text_takes coding with_header n xs x e =
    let k = octets_of coding n in
    let s = bind_ok (text_test coding with_header n (take k xs)) _ x e in
    let a = bind_ok (only_if (header_fits with_header k (take k xs)) BadHeader) _ s.0 s.1 in
    let p = run_takes Truncated k xs x s.2 in
    let front : take k xs ≡ x.0 = ap (take k) p.0 ∙ take_at x.0 x.1 k p.1 in
    record {
      parts = p.0;
      len = p.1;
      header = ap (header_fits with_header k) (sym front) ∙ passes _ BadHeader a.0 a.1;
      content = subst (λ (t : List ℕ). IsContentBehind coding (header_octets with_header t) n t) front (content_takes coding (header_octets with_header (take k xs)) n (take k xs) s.0 a.2);
    }

text_again : (coding : Coding) (with_header : Bool) (n : ℕ) (text rest : List ℕ) → length text ≡ octets_of coding n → header_fits with_header (octets_of coding n) text ≡ true → IsContentBehind coding (header_octets with_header text) n text
    → text_in coding with_header n (text ++ rest) ≡ Ok (text, rest)
unfolding text_in text_test
text_again coding with_header n text rest len header content =
    let k = octets_of coding n in
    rw (take_at text rest k len, header, content_again coding (header_octets with_header text) n text content, run_again Truncated k text rest len) refl

pub record TakesData (coding : Coding) (with_header : Bool) (xs : List ℕ) (u : UserData) (rest : List ℕ) : Type 0 where
  pub parts : xs ≡ user_data_field u ++ rest
  pub is : IsUserData coding with_header u
  pub rest_fits : AreOctets rest

pub data_takes : (coding : Coding) (with_header : Bool) (xs : List ℕ) (x : UserData × List ℕ) → AreOctets xs → user_data_in coding with_header xs ≡ Ok x → TakesData coding with_header xs x.0 x.1
unfolding user_data_in
data_takes coding with_header xs x fits e =
    let a = bind_ok (octet_in Truncated xs) _ x e in
    let n = a.0.0 in
    let b = bind_ok (only_if (leb n (greatest_length coding)) UserDataTooLong) _ x a.2 in
    let c = bind_ok (only_if (not with_header || ltb 0 n) BadHeader) _ x b.2 in
    let d = bind_ok (text_in coding with_header n a.0.1) _ x c.2 in
    let pa = octet_takes Truncated xs a.0 a.1 in
    let t = text_takes coding with_header n a.0.1 d.0 d.1 in
    let made : UserData = record { length = n; octets = d.0.0 } in
    let is : IsUserData coding with_header made = record { within = leb-true _ _ (passes _ UserDataTooLong b.0 b.1); whole = t.len; header = header_takes coding with_header n d.0.0 t.len (passes _ BadHeader c.0 c.1) t.header; content = t.content } in
    let whole : xs ≡ user_data_field made ++ d.0.1 = pa ∙ ap (λ (l : List ℕ). n ∷ l) t.parts in
    subst (λ (y : UserData × List ℕ). TakesData coding with_header xs y.0 y.1) (ok_is {E = TpduFault} (made, d.0.1) x d.2)
    (record { parts = whole; is = is; rest_fits = octets_behind (user_data_field made) d.0.1 (subst AreOctets whole fits) })

pub data_again : (coding : Coding) (with_header : Bool) (u : UserData) (rest : List ℕ) → IsUserData coding with_header u → user_data_in coding with_header (user_data_field u ++ rest) ≡ Ok (u, rest)
unfolding user_data_in
data_again coding with_header u rest h =
    let within : leb u.length (greatest_length coding) ≡ true = le-leb _ _ h.within in
    rw (within, some_again coding with_header u.length u.octets h.whole h.header, text_again coding with_header u.length u.octets rest h.whole (header_again coding with_header u.length u.octets h.whole h.header) h.content) refl

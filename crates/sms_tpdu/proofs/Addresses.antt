-- Each address field that is read is in the grammar, and each that is in the grammar is read.
use Rattle.std.proofs.Common.{◌≡◌, ℕ, zero, suc, ◌+◌, ◌-◌, ◌*◌, ◌/◌, ◌%◌, ◌^◌, ◌<◌, ◌≤◌, Bool, true, false, not, ◌&&◌, ◌||◌, eqb, ltb, leb, List, [], ◌∷◌, ◌++◌, length, take, Ok, Option, Some, None, refl, sym, ap, subst, ◌∙◌, arith}
use Rattle.std.specs.Option.{ok_or}
use Rattle.std.proofs.lemmas.Bool.{ltb-true, ltb-false, leb-true, eqb-true, eqb-false, lt-ltb, le-ltb, eq-eqb, ne_eqb, and_parts, not-true}
use Rattle.sms_base.specs.Reading.{only_if, octet_in, AreOctets}
use Rattle.sms_base.proofs.Steps.{bind_ok, passes, ok_is, octet_takes}
use Rattle.sms_base.specs.SemiOctet.{digit_of, is_digit}
use Rattle.sms_base.specs.AddressKind.{type_of, type_number, is_name}
use Rattle.sms_base.specs.declared.type_of_number.TypeOfNumber.{TypeOfNumber}
use Rattle.sms_base.specs.declared.type_of_number.TypeOfNumber.TheVariants.{Unknown, International, National, NetworkSpecific, Subscriber, Alphanumeric, Abbreviated}
use Rattle.sms_base.specs.declared.address.Address.{Address}
use Rattle.sms_tpdu.specs.declared.fault.TpduFault.{TpduFault}
use Rattle.sms_tpdu.specs.declared.fault.TpduFault.TheVariants.{Truncated, BadAddress}
use Rattle.std.proofs.lemmas.List.{take_at}
use Rattle.std.proofs.Math.Nat.{lt-mul-div-succ, div-eq_of_lt, one-le-pow}
use Rattle.sms_base.specs.Address.{IsAddress, IsAddressText}
use Rattle.sms_base.specs.Alphabet.{text_in}
use Rattle.sms_base.specs.Reading.{run_in}
use Rattle.sms_base.proofs.Steps.{run_takes, run_again}
use Rattle.sms_base.proofs.Addresses.{type_number-of}
use Rattle.sms_base.proofs.OctetLaws.{octets_behind}
use Rattle.sms_alphabet.specs.Packing.{AreSeptets, value_in, digits_in as base_digits}
use Rattle.sms_alphabet.proofs.RoundTrip.{value-below, digits_in-value, value_in-digits, length-digits, digits-below}
use Rattle.sms_tpdu.proofs.Names.{read_name, read_some}
use Rattle.sms_tpdu.specs.AddressReading.{two_digits_in, last_digit_in, digits_in, name_in, characters_in, type_of_number_in, address_in}
use Rattle.sms_tpdu.specs.AddressGrammar.{semi_octet, semi_octets, AreDigits, type_of_address, IsAddressField, IsSpelledAddress, IsNameField, octets_for, name_length}

pub rest_fits : (o : ℕ) (xs ys : List ℕ) → ys ≡ o ∷ xs → AreOctets ys → (o < 256) × AreOctets xs
rest_fits o xs ys e h = subst AreOctets e h

-- ---- semi-octets and digits

abbrev IsPair : ℕ → Type 0
IsPair s = (is_digit (digit_of s) ≡ true) × (semi_octet (digit_of s) ≡ s)

pub digit_back : (s : ℕ) → s < 15 → IsPair s
digit_back zero lt = (refl, refl)
digit_back (suc zero) lt = (refl, refl)
digit_back (suc (suc zero)) lt = (refl, refl)
digit_back (suc (suc (suc zero))) lt = (refl, refl)
digit_back (suc (suc (suc (suc zero)))) lt = (refl, refl)
digit_back (suc (suc (suc (suc (suc zero))))) lt = (refl, refl)
digit_back (suc (suc (suc (suc (suc (suc zero)))))) lt = (refl, refl)
digit_back (suc (suc (suc (suc (suc (suc (suc zero))))))) lt = (refl, refl)
digit_back (suc (suc (suc (suc (suc (suc (suc (suc zero)))))))) lt = (refl, refl)
digit_back (suc (suc (suc (suc (suc (suc (suc (suc (suc zero))))))))) lt = (refl, refl)
digit_back (suc (suc (suc (suc (suc (suc (suc (suc (suc (suc zero)))))))))) lt = (refl, refl)
digit_back (suc (suc (suc (suc (suc (suc (suc (suc (suc (suc (suc zero))))))))))) lt = (refl, refl)
digit_back (suc (suc (suc (suc (suc (suc (suc (suc (suc (suc (suc (suc zero)))))))))))) lt = (refl, refl)
digit_back (suc (suc (suc (suc (suc (suc (suc (suc (suc (suc (suc (suc (suc zero))))))))))))) lt = (refl, refl)
digit_back (suc (suc (suc (suc (suc (suc (suc (suc (suc (suc (suc (suc (suc (suc zero)))))))))))))) lt = (refl, refl)
digit_back (suc (suc (suc (suc (suc (suc (suc (suc (suc (suc (suc (suc (suc (suc (suc n))))))))))))))) lt = absurd (omega arith)

abbrev IsBack : ℕ → Type 0
IsBack c = (semi_octet c < 15) × (digit_of (semi_octet c) ≡ c)

low_back : (c : ℕ) → 48 ≤ c → c < 58 → digit_of (c - 48) ≡ c
low_back c le lt =
    let small : ltb (c - 48) 10 ≡ true = lt-ltb (c - 48) 10 (omega arith) in
    rw small (omega arith)

high_back : (c : ℕ) → 97 ≤ c → c < 100 → digit_of (c - 85) ≡ c
high_back c le lt =
    let a : ltb (c - 85) 10 ≡ false = le-ltb (c - 85) 10 (omega arith) in
    let b : eqb (c - 85) 10 ≡ false = ne_eqb (c - 85) 10 (λ e. omega arith) in
    let d : eqb (c - 85) 11 ≡ false = ne_eqb (c - 85) 11 (λ e. omega arith) in
    rw (a, b, d) (omega arith)

by_tests : (c : ℕ) (a b d e : Bool) → leb 48 c && ltb c 58 ≡ a → eqb c 42 ≡ b → eqb c 35 ≡ d → leb 97 c && ltb c 100 ≡ e → is_digit c ≡ true → IsBack c
by_tests c true b d e ha hb hd he h =
    let t = and_parts (leb 48 c) (ltb c 58) ha in
    let low : 48 ≤ c = leb-true 48 c t.0 in
    let high : c < 58 = ltb-true c 58 t.1 in
    let is : semi_octet c ≡ c - 48 = rw ha refl in
    rw is (omega arith, low_back c low high)
by_tests c false true d e ha hb hd he h =
    let is : semi_octet c ≡ 10 = rw (ha, hb) refl in
    rw is (omega arith, sym (eqb-true c 42 hb))
by_tests c false false true e ha hb hd he h =
    let is : semi_octet c ≡ 11 = rw (ha, hb, hd) refl in
    rw is (omega arith, sym (eqb-true c 35 hd))
by_tests c false false false true ha hb hd he h =
    let t = and_parts (leb 97 c) (ltb c 100) he in
    let low : 97 ≤ c = leb-true 97 c t.0 in
    let high : c < 100 = ltb-true c 100 t.1 in
    let is : semi_octet c ≡ c - 85 = rw (ha, hb, hd, he) refl in
    rw is (omega arith, high_back c low high)
by_tests c false false false false ha hb hd he h =
    let none : is_digit c ≡ false = rw (ha, hb, hd, he) refl in
    absurd cc

pub character_back : (c : ℕ) → is_digit c ≡ true → IsBack c
character_back c h = by_tests c (leb 48 c && ltb c 58) (eqb c 42) (eqb c 35) (leb 97 c && ltb c 100) refl refl refl refl h

-- ---- digits

pub record TakesDigits (n : ℕ) (xs ds rest : List ℕ) : Type 0 where
  pub parts : xs ≡ semi_octets ds ++ rest
  pub digits : AreDigits ds
  pub len : length ds ≡ n
  pub rest_fits : AreOctets rest

pub record TakesTwo (xs : List ℕ) (low high : ℕ) (rest : List ℕ) : Type 0 where
  pub parts : xs ≡ (semi_octet low + 16 * semi_octet high) ∷ rest
  pub low_is : is_digit low ≡ true
  pub high_is : is_digit high ≡ true
  pub rest_fits : AreOctets rest

pub two_digits_takes : (xs : List ℕ) (x : (ℕ × ℕ) × List ℕ) → AreOctets xs → two_digits_in xs ≡ Ok x → TakesTwo xs x.0.0 x.0.1 x.1
unfolding two_digits_in
two_digits_takes xs x fits e =
    let a = bind_ok (octet_in Truncated xs) _ x e in
    let o = a.0.0 in
    let b = bind_ok (only_if (not (eqb (o % 16) 15) && not (eqb (o / 16) 15)) BadAddress) _ x a.2 in
    let t = and_parts (not (eqb (o % 16) 15)) (not (eqb (o / 16) 15)) (passes _ BadAddress b.0 b.1) in
    let p = octet_takes Truncated xs a.0 a.1 in
    let f = rest_fits o a.0.1 xs p fits in
    let low : o % 16 ≡ 15 → ⊥ = eqb-false (o % 16) 15 (not-true _ t.0) in
    let high : o / 16 ≡ 15 → ⊥ = eqb-false (o / 16) 15 (not-true _ t.1) in
    let l = digit_back (o % 16) (omega (arith, low)) in
    let h = digit_back (o / 16) (omega (arith, high, f.0)) in
    let whole : o ≡ semi_octet (digit_of (o % 16)) + 16 * semi_octet (digit_of (o / 16)) = rw (l.1, h.1) (omega arith) in
    subst (λ (y : (ℕ × ℕ) × List ℕ). TakesTwo xs y.0.0 y.0.1 y.1) (ok_is {E = TpduFault} ((digit_of (o % 16), digit_of (o / 16)), a.0.1) x b.2)
    (record { parts = p ∙ ap (λ (k : ℕ). k ∷ a.0.1) whole; low_is = l.0; high_is = h.0; rest_fits = f.1 })

pub record TakesOne (xs : List ℕ) (d : ℕ) (rest : List ℕ) : Type 0 where
  pub parts : xs ≡ (semi_octet d + 240) ∷ rest
  pub digit : is_digit d ≡ true
  pub rest_fits : AreOctets rest

pub last_digit_takes : (xs : List ℕ) (x : ℕ × List ℕ) → AreOctets xs → last_digit_in xs ≡ Ok x → TakesOne xs x.0 x.1
unfolding last_digit_in
last_digit_takes xs x fits e =
    let a = bind_ok (octet_in Truncated xs) _ x e in
    let o = a.0.0 in
    let b = bind_ok (only_if (not (eqb (o % 16) 15) && eqb (o / 16) 15) BadAddress) _ x a.2 in
    let t = and_parts (not (eqb (o % 16) 15)) (eqb (o / 16) 15) (passes _ BadAddress b.0 b.1) in
    let p = octet_takes Truncated xs a.0 a.1 in
    let f = rest_fits o a.0.1 xs p fits in
    let low : o % 16 ≡ 15 → ⊥ = eqb-false (o % 16) 15 (not-true _ t.0) in
    let high : o / 16 ≡ 15 = eqb-true (o / 16) 15 t.1 in
    let l = digit_back (o % 16) (omega (arith, low)) in
    let whole : o ≡ semi_octet (digit_of (o % 16)) + 240 = rw l.1 (omega arith) in
    subst (λ (y : ℕ × List ℕ). TakesOne xs y.0 y.1) (ok_is {E = TpduFault} (digit_of (o % 16), a.0.1) x b.2)
    (record { parts = p ∙ ap (λ (k : ℕ). k ∷ a.0.1) whole; digit = l.0; rest_fits = f.1 })

pub digits_takes : (n : ℕ) (xs : List ℕ) (x : List ℕ × List ℕ) → AreOctets xs → digits_in n xs ≡ Ok x → TakesDigits n xs x.0 x.1
unfolding digits_in
digits_takes zero xs x fits e =
    subst (λ (y : List ℕ × List ℕ). TakesDigits zero xs y.0 y.1) (ok_is {E = TpduFault} ([], xs) x e) (record { parts = refl; digits = tt; len = refl; rest_fits = fits })
digits_takes (suc zero) xs x fits e =
    let a = bind_ok (last_digit_in xs) _ x e in
    let t = last_digit_takes xs a.0 fits a.1 in
    subst (λ (y : List ℕ × List ℕ). TakesDigits 1 xs y.0 y.1) (ok_is {E = TpduFault} (a.0.0 ∷ [], a.0.1) x a.2) (record { parts = t.parts; digits = (t.digit, tt); len = refl; rest_fits = t.rest_fits })
digits_takes (suc (suc n)) xs x fits e =
    let a = bind_ok (two_digits_in xs) _ x e in
    let t = two_digits_takes xs a.0 fits a.1 in
    let b = bind_ok (digits_in n a.0.1) _ x a.2 in
    let more = digits_takes n a.0.1 b.0 t.rest_fits b.1 in
    let whole : xs ≡ semi_octets (a.0.0.0 ∷ a.0.0.1 ∷ b.0.0) ++ b.0.1 = t.parts ∙ ap (λ (l : List ℕ). (semi_octet a.0.0.0 + 16 * semi_octet a.0.0.1) ∷ l) more.parts in
    subst (λ (y : List ℕ × List ℕ). TakesDigits (suc (suc n)) xs y.0 y.1) (ok_is {E = TpduFault} (a.0.0.0 ∷ a.0.0.1 ∷ b.0.0, b.0.1) x b.2)
    (record { parts = whole; digits = (t.low_is, (t.high_is, more.digits)); len = ap (λ (k : ℕ). suc (suc k)) more.len; rest_fits = more.rest_fits })

low_digit : (d e : ℕ) → d < 15 → e < 15 → not (eqb ((d + 16 * e) % 16) 15) && not (eqb ((d + 16 * e) / 16) 15) ≡ true
low_digit d e h k =
    let a : (d + 16 * e) % 16 ≡ 15 → ⊥ = λ x. omega arith in
    let b : (d + 16 * e) / 16 ≡ 15 → ⊥ = λ x. omega arith in
    rw (ne_eqb _ _ a, ne_eqb _ _ b) refl

pub two_digits_again : (d e : ℕ) (rest : List ℕ) → is_digit d ≡ true → is_digit e ≡ true → two_digits_in ((semi_octet d + 16 * semi_octet e) ∷ rest) ≡ Ok ((d, e), rest)
unfolding two_digits_in
two_digits_again d e rest hd he =
    let p = character_back d hd in
    let q = character_back e he in
    let a : (semi_octet d + 16 * semi_octet e) % 16 ≡ semi_octet d = omega (arith, p.0, q.0) in
    let b : (semi_octet d + 16 * semi_octet e) / 16 ≡ semi_octet e = omega (arith, p.0, q.0) in
    let f : digit_of ((semi_octet d + 16 * semi_octet e) % 16) ≡ d = ap digit_of a ∙ p.1 in
    let g : digit_of ((semi_octet d + 16 * semi_octet e) / 16) ≡ e = ap digit_of b ∙ q.1 in
    rw (low_digit (semi_octet d) (semi_octet e) p.0 q.0, f, g) refl

pub last_digit_again : (d : ℕ) (rest : List ℕ) → is_digit d ≡ true → last_digit_in ((semi_octet d + 240) ∷ rest) ≡ Ok (d, rest)
unfolding last_digit_in
last_digit_again d rest hd =
    let p = character_back d hd in
    let a : (semi_octet d + 240) % 16 ≡ 15 → ⊥ = λ x. omega (arith, p.0) in
    let b : (semi_octet d + 240) / 16 ≡ 15 = omega (arith, p.0) in
    let c : (semi_octet d + 240) % 16 ≡ semi_octet d = omega (arith, p.0) in
    let f : digit_of ((semi_octet d + 240) % 16) ≡ d = ap digit_of c ∙ p.1 in
    rw (ne_eqb _ _ a, eq-eqb _ _ b, f) refl

pub digits_again : (ds rest : List ℕ) → AreDigits ds → digits_in (length ds) (semi_octets ds ++ rest) ≡ Ok (ds, rest)
unfolding digits_in
digits_again [] rest h = refl
digits_again (d ∷ []) rest h = rw (last_digit_again d rest h.0) refl
digits_again (d ∷ e ∷ ds) rest h =
    rw (two_digits_again d e (semi_octets ds ++ rest) h.0 h.1.0, digits_again ds rest h.1.1) refl

-- ---- the type of number

type_again : (t : TypeOfNumber) → (type_of (type_number t) ≡ Some t) × (type_number t < 7)
type_again Unknown = (refl, omega arith)
type_again International = (refl, omega arith)
type_again National = (refl, omega arith)
type_again NetworkSpecific = (refl, omega arith)
type_again Subscriber = (refl, omega arith)
type_again Alphanumeric = (refl, omega arith)
type_again Abbreviated = (refl, omega arith)

ok_or_is : {X : Type 0} (o : Option X) (x : X) → ok_or o BadAddress ≡ Ok x → o ≡ Some x
ok_or_is (Some n) m e = cc
ok_or_is None m e = absurd cc

pub type_takes : (o : ℕ) (t : TypeOfNumber) → type_of_number_in o ≡ Ok t → o ≡ 128 + 16 * type_number t + o % 16
unfolding type_of_number_in
type_takes o t e =
    let a = bind_ok (only_if (not (ltb o 128)) BadAddress) _ t e in
    let high : 128 ≤ o = ltb-false o 128 (not-true _ (passes _ BadAddress a.0 a.1)) in
    let n : type_number t ≡ o / 16 - 8 = type_number-of (o / 16 - 8) t (ok_or_is _ t a.2) in
    omega (arith, n, high)

pub type_again_in : (t : TypeOfNumber) (npi : ℕ) → npi < 16 → type_of_number_in (128 + 16 * type_number t + npi) ≡ Ok t
unfolding type_of_number_in
type_again_in t npi n =
    let r = type_again t in
    let k = 128 + 16 * type_number t + npi in
    let a : ltb k 128 ≡ false = le-ltb k 128 (omega arith) in
    let b : k / 16 - 8 ≡ type_number t = omega (arith, n) in
    rw (a, b, r.0) refl

-- ---- names

pub quotient_zero : (v k : ℕ) → 0 < k → eqb (v / k) 0 ≡ true → v < k
quotient_zero v k pos e =
    let z : v / k ≡ 0 = eqb-true _ _ e in
    let lt : v < k * (v / k + 1) = lt-mul-div-succ v pos in
    let one : k * (v / k + 1) ≡ k = ap (λ (n : ℕ). k * (n + 1)) z ∙ omega arith in
    omega (arith, lt, one)

pub zero_quotient : (v k : ℕ) → v < k → eqb (v / k) 0 ≡ true
zero_quotient v k lt = eq-eqb _ _ (div-eq_of_lt lt)

pub record TakesName (count : ℕ) (xs name rest : List ℕ) : Type 0 where
  pub septets : List ℕ
  pub value : List ℕ
  pub parts : xs ≡ value ++ rest
  pub septets_len : length septets ≡ name_length count
  pub small : AreSeptets septets
  pub value_len : length value ≡ octets_for count
  pub value_is : value_in 256 value ≡ value_in 128 septets
  pub name_is : name ≡ text_in septets
  pub rest_fits : AreOctets rest

name_takes : (count : ℕ) (xs : List ℕ) (x : List ℕ × List ℕ) → AreOctets xs → name_in count xs ≡ Ok x → TakesName count xs x.0 x.1
unfolding name_in
name_takes count xs x fits e =
    let k = octets_for count in
    let n = name_length count in
    let a = bind_ok (only_if (eqb (value_in 256 (take k xs) / 128 ^ n) 0) BadAddress) _ x e in
    let b = bind_ok (run_in Truncated k xs) _ x a.2 in
    let p = run_takes Truncated k xs b.0 b.1 in
    let front : take k xs ≡ b.0.0 = ap (take k) p.0 ∙ take_at b.0.0 b.0.1 k p.1 in
    let v = value_in 256 (take k xs) in
    let pos : 0 < 128 ^ n = omega (arith, one-le-pow n 128 (omega arith)) in
    let below : v < 128 ^ n = quotient_zero v (128 ^ n) pos (passes _ BadAddress a.0 a.1) in
    let septets = base_digits 128 n v in
    subst (λ (y : List ℕ × List ℕ). TakesName count xs y.0 y.1) (ok_is {E = TpduFault} (text_in septets, b.0.1) x b.2)
    (record {
      septets = septets;
      value = b.0.0;
      parts = p.0;
      septets_len = length-digits 128 n v;
      small = digits-below n v;
      value_len = p.1;
      value_is = ap (value_in 256) (sym front) ∙ sym (value_in-digits n v below);
      name_is = refl;
      rest_fits = octets_behind b.0.0 b.0.1 (subst AreOctets p.0 fits);
    })

name_again : (count : ℕ) (septets value rest : List ℕ) → length septets ≡ name_length count → AreSeptets septets → length value ≡ octets_for count → value_in 256 value ≡ value_in 128 septets
    → name_in count (value ++ rest) ≡ Ok (text_in septets, rest)
unfolding name_in
name_again count septets value rest septets_len small value_len value_is =
    let k = octets_for count in
    let n = name_length count in
    let below : value_in 256 value < 128 ^ n = subst (λ (i : ℕ). value_in 256 value < 128 ^ i) septets_len (omega (arith, value_is, value-below septets small)) in
    let read : base_digits 128 n (value_in 256 value) ≡ septets = ap (base_digits 128 n) value_is ∙ ap (λ (i : ℕ). base_digits 128 i (value_in 128 septets)) (sym septets_len) ∙ digits_in-value septets small in
    rw (take_at value rest k value_len, zero_quotient (value_in 256 value) (128 ^ n) below, run_again Truncated k value rest value_len, read) refl

-- ---- addresses

pub record TakesAddress (xs : List ℕ) (a : Address) (rest : List ℕ) : Type 0 where
  pub text : List ℕ
  pub parts : xs ≡ text ++ rest
  pub is : IsAddressField text a
  pub rest_fits : AreOctets rest

abbrev address_with : TypeOfNumber → ℕ → List ℕ → Address
address_with ton npi digits = record { ton = ton; npi = npi; digits = digits }

-- what stands behind the type of address
record TakesValue (count kind : ℕ) (ton : TypeOfNumber) (xs digits rest : List ℕ) : Type 0 where
  value : List ℕ
  parts : xs ≡ value ++ rest
  is : IsAddressField (count ∷ kind ∷ value) (address_with ton (kind % 16) digits)
  rest_fits : AreOctets rest

number_is : (count kind : ℕ) (ton : TypeOfNumber) (xs digits rest : List ℕ) → is_name ton ≡ false → 0 < count → count < 21 → kind ≡ 128 + 16 * type_number ton + kind % 16 → TakesDigits count xs digits rest → TakesValue count kind ton xs digits rest
number_is count kind ton xs digits rest number some few k t =
    let a = address_with ton (kind % 16) digits in
    let is_text : IsAddressText ton digits = record { some = omega (arith, t.len); number = λ no. record { few = omega (arith, t.len); digits = t.digits }; name = λ yes. absurd cc } in
    let valid : IsAddress a = record { npi = omega arith; digits = is_text } in
    let spelled : count ∷ kind ∷ semi_octets digits ≡ length digits ∷ type_of_address a ∷ semi_octets digits = ap (λ (l : ℕ). l ∷ kind ∷ semi_octets digits) (sym t.len) ∙ ap (λ (l : ℕ). length digits ∷ l ∷ semi_octets digits) k in
    record { value = semi_octets digits; parts = t.parts; is = record { valid = valid; spelled = subst (λ (b : Bool). IsSpelledAddress b (count ∷ kind ∷ semi_octets digits) a) (sym number) spelled }; rest_fits = t.rest_fits }

name_is : (count kind : ℕ) (ton : TypeOfNumber) (xs digits rest : List ℕ) → is_name ton ≡ true → 1 < count → count < 21 → kind ≡ 128 + 16 * type_number ton + kind % 16 → TakesName count xs digits rest → TakesValue count kind ton xs digits rest
name_is count kind ton xs digits rest name some few k t =
    let a = address_with ton (kind % 16) digits in
    let len : 0 < length t.septets = omega (arith, t.septets_len) in
    let short : length t.septets ≤ 11 = omega (arith, t.septets_len) in
    let text = read_name t.septets t.small in
    let is_text : IsAddressText ton digits = subst (λ (l : List ℕ). IsAddressText ton l) (sym t.name_is) (record { some = read_some t.septets len; number = λ no. absurd cc; name = λ yes. record { few = omega (arith, text.0); characters = text.1 } }) in
    let valid : IsAddress a = record { npi = omega arith; digits = is_text } in
    let field : IsNameField (count ∷ kind ∷ t.value) a = (count, t.septets, t.value, omega arith, t.septets_len, len, t.small, t.value_len, t.value_is, t.name_is, ap (λ (l : ℕ). count ∷ l ∷ t.value) k) in
    record { value = t.value; parts = t.parts; is = record { valid = valid; spelled = subst (λ (b : Bool). IsSpelledAddress b (count ∷ kind ∷ t.value) a) (sym name) field }; rest_fits = t.rest_fits }

value_takes : (b : Bool) (count kind : ℕ) (ton : TypeOfNumber) (xs : List ℕ) (x : List ℕ × List ℕ) → is_name ton ≡ b → 0 < count → count < 21 → not b || ltb 1 count ≡ true → kind ≡ 128 + 16 * type_number ton + kind % 16
    → AreOctets xs → characters_in b count xs ≡ Ok x → TakesValue count kind ton xs x.0 x.1
unfolding characters_in
value_takes false count kind ton xs x is some few letters k fits e = number_is count kind ton xs x.0 x.1 is some few k (digits_takes count xs x fits e)
value_takes true count kind ton xs x is some few letters k fits e = name_is count kind ton xs x.0 x.1 is (ltb-true 1 count letters) few k (name_takes count xs x fits e)

pub address_takes : (xs : List ℕ) (x : Address × List ℕ) → AreOctets xs → address_in xs ≡ Ok x → TakesAddress xs x.0 x.1
unfolding address_in
address_takes xs x fits e =
    let a = bind_ok (octet_in Truncated xs) _ x e in
    let len = a.0.0 in
    let b = bind_ok (only_if (ltb 0 len && ltb len 21) BadAddress) _ x a.2 in
    let c = bind_ok (octet_in Truncated a.0.1) _ x b.2 in
    let kind = c.0.0 in
    let d = bind_ok (type_of_number_in kind) _ x c.2 in
    let l = bind_ok (only_if (not (is_name d.0) || ltb 1 len) BadAddress) _ x d.2 in
    let f = bind_ok (characters_in (is_name d.0) len c.0.1) _ x l.2 in
    let t = and_parts (ltb 0 len) (ltb len 21) (passes _ BadAddress b.0 b.1) in
    let pa = octet_takes Truncated xs a.0 a.1 in
    let fa = rest_fits len a.0.1 xs pa fits in
    let pc = octet_takes Truncated a.0.1 c.0 c.1 in
    let fc = rest_fits kind c.0.1 a.0.1 pc fa.1 in
    let g = value_takes (is_name d.0) len kind d.0 c.0.1 f.0 refl (ltb-true 0 len t.0) (ltb-true len 21 t.1) (passes _ BadAddress l.0 l.1) (type_takes kind d.0 d.1) fc.1 f.1 in
    let whole : xs ≡ (len ∷ kind ∷ g.value) ++ f.0.1 = pa ∙ ap (λ (y : List ℕ). len ∷ y) (pc ∙ ap (λ (y : List ℕ). kind ∷ y) g.parts) in
    subst (λ (y : Address × List ℕ). TakesAddress xs y.0 y.1) (ok_is {E = TpduFault} (address_with d.0 (kind % 16) f.0.0, f.0.1) x f.2)
    (record { text = len ∷ kind ∷ g.value; parts = whole; is = g.is; rest_fits = g.rest_fits })

-- a spelled address, by what it reads as
record Spelled (text : List ℕ) (a : Address) (rest : List ℕ) : Type 0 where
  count : ℕ
  value : List ℕ
  some : 0 < count
  few : count ≤ 20
  letters : not (is_name a.ton) || ltb 1 count ≡ true
  spelled : text ≡ count ∷ type_of_address a ∷ value
  reads : characters_in (is_name a.ton) count (value ++ rest) ≡ Ok (a.digits, rest)

spelled_by : (b : Bool) (text : List ℕ) (a : Address) (rest : List ℕ) → is_name a.ton ≡ b → IsAddress a → IsSpelledAddress b text a → Spelled text a rest
unfolding characters_in
spelled_by false text a rest is valid spelled =
    let n = valid.digits.number is in
    record {
      count = length a.digits;
      value = semi_octets a.digits;
      some = valid.digits.some;
      few = n.few;
      letters = rw is refl;
      spelled = spelled;
      reads = rw is (digits_again a.digits rest n.digits);
    }
spelled_by true text a rest is valid (count, septets, value, few, septets_len, some, small, value_len, value_is, name, spelled) =
    let two : 1 < count = omega (arith, septets_len, some) in
    record {
      count = count;
      value = value;
      some = omega arith;
      few = few;
      letters = rw (is, lt-ltb 1 count two) refl;
      spelled = spelled;
      reads = rw is (name_again count septets value rest septets_len small value_len value_is ∙ ap (λ (l : List ℕ). Ok (l, rest)) (sym name));
    }

pub address_again : (text : List ℕ) (a : Address) (rest : List ℕ) → IsAddressField text a → address_in (text ++ rest) ≡ Ok (a, rest)
unfolding address_in
address_again text a rest h =
    let s = spelled_by (is_name a.ton) text a rest refl h.valid h.spelled in
    let npi : (128 + 16 * type_number a.ton + a.npi) % 16 ≡ a.npi = omega (arith, h.valid.npi) in
    let low : ltb 0 s.count ≡ true = lt-ltb _ _ s.some in
    let high : ltb s.count 21 ≡ true = lt-ltb _ _ (omega (arith, s.few)) in
    rw (s.spelled, low, high, type_again_in a.ton a.npi h.valid.npi, s.letters, s.reads, npi) refl

-- Octets that are missing can be added: the fields.
use Rattle.std.proofs.Common.{◌≡◌, ℕ, zero, suc, ◌+◌, ◌-◌, ◌*◌, ◌/◌, ◌%◌, ◌^◌, ◌<◌, ◌≤◌, Bool, true, false, cond, not, ◌&&◌, ◌||◌, eqb, ltb, leb, List, [], ◌∷◌, ◌++◌, length, take, drop, Result, Ok, Err, Option, Some, None, refl, sym, ap, subst, ◌∙◌, arith}
use Rattle.std.specs.Option.{ok_or}
use Rattle.std.proofs.lemmas.Bool.{ltb-true, leb-true, leb-false, lt-ltb, le-ltb, eqb-true, eq-eqb}
use Rattle.std.proofs.lemmas.List.{length-append, length-drop, length-take, take_all, drop_all}
use Rattle.std.proofs.Math.Nat.{pow-le-pow_right}
use Rattle.sms_base.specs.Reading.{◌>>=◌, only_if, run_in, AreOctets}
use Rattle.sms_base.proofs.Steps.{bind_ok, passes}
use Rattle.sms_base.proofs.FaultSteps.{zeros, zeros_length, zeros_octets}
use Rattle.sms_base.specs.TimeStamp.{scts_in, clock_in, zone_in, moment_in}
use Rattle.jiff_core.specs.Calendar.{days_from_civil, day_count, days_of_years, days_of_months}
use Rattle.sms_base.specs.AddressKind.{is_name, type_of}
use Rattle.sms_base.specs.declared.address.Address.{Address}
use Rattle.sms_base.specs.declared.type_of_number.TypeOfNumber.{TypeOfNumber}
use Rattle.sms_base.specs.declared.type_of_number.TypeOfNumber.TheVariants.{Unknown}
use Rattle.sms_base.specs.Alphabet.{text_in as characters_of}
use Rattle.sms_alphabet.specs.Packing.{value_in, packed_len, tested, digits_in as base_digits}
use Rattle.sms_alphabet.specs.declared.scheme.Coding.{Coding}
use Rattle.sms_alphabet.specs.declared.scheme.Coding.TheVariants.{Septets, Octets, Ucs2, Compressed}
use Rattle.sms_alphabet.specs.declared.unpacking.UnpackError.{UnpackError}
use Rattle.sms_alphabet.specs.declared.unpacking.UnpackError.TheVariants.{TooShort, SpareBits as BitsOutside, NoMemory}
use Rattle.sms_alphabet.proofs.Value.{value-append}
use Rattle.sms_alphabet.proofs.Held.{octet_power}
use Rattle.sms_alphabet.proofs.Places.{ends_at}
use Rattle.sms_tpdu.specs.declared.fault.TpduFault.{TpduFault}
use Rattle.sms_tpdu.specs.declared.fault.TpduFault.TheVariants.{Truncated, BadAddress, BadTime, UserDataTooLong, BadHeader}
use Rattle.sms_tpdu.specs.declared.user_data.UserData.{UserData}
use Rattle.sms_tpdu.specs.AddressGrammar.{semi_octet, octets_for, name_length}
use Rattle.sms_tpdu.specs.AddressReading.{two_digits_in, last_digit_in, digits_in, name_in, characters_in, type_of_number_in, address_in}
use Rattle.sms_tpdu.specs.TimeReading.{completed, time_in}
use Rattle.sms_tpdu.specs.UserDataGrammar.{greatest_length, octets_of, header_octets, header_septets, fill_behind}
use Rattle.sms_tpdu.specs.UserDataReading.{header_fits, of_test, content_test, text_test, text_in, user_data_in}
use Rattle.sms_tpdu.proofs.Powers.{value_below}
use Rattle.sms_tpdu.proofs.Addresses.{two_digits_takes, two_digits_again, last_digit_takes, last_digit_again}
use Rattle.sms_tpdu.proofs.FaultSteps.{no_fault, fault_is, at_once, behind, cause_of, Reading, IsField, pure_field, bind_field, Completes, pure_completes, bind_completes}
use Rattle.sms_tpdu.proofs.FaultFields.{two_untrailed, last_untrailed}
use Rattle.sms_tpdu.proofs.Texts.{test_is}
use Rattle.sms_tpdu.proofs.Times.{ok_or_is}

-- what a field answers where octets are missing, and the octets that complete it
abbrev Grows : {X : Type 0} → Reading X → List ℕ → Type 0
Grows {X} r xs = (ys : List ℕ) × (AreOctets ys × ((x : X) × (r (xs ++ ys) ≡ Ok (x, []))))

address_isn't : BadAddress ≡ Truncated → ⊥
address_isn't p = absurd cc

time_isn't : BadTime ≡ Truncated → ⊥
time_isn't p = absurd cc

long_isn't : UserDataTooLong ≡ Truncated → ⊥
long_isn't p = absurd cc

header_isn't : BadHeader ≡ Truncated → ⊥
header_isn't p = absurd cc

-- a test that isn't the fault passed
pub passed : {B : Type 0} (b : Bool) (bad : TpduFault) (r : Result B TpduFault) → (bad ≡ Truncated → ⊥) → (only_if b bad >>= (λ u. r)) ≡ Err Truncated → (b ≡ true) × (r ≡ Err Truncated)
passed true bad r other e = (refl, e)
passed {B} false bad r other e = absurd (other (fault_is {X = B} bad Truncated e))

run_is_short : (n : ℕ) (xs : List ℕ) → run_in Truncated n xs ≡ Err Truncated → length xs < n
unfolding run_in
run_is_short n xs e = by (ltb (length xs) n) refl e
  where
    by : (b : Bool) → ltb (length xs) n ≡ b → (let r : Result (List ℕ × List ℕ) TpduFault = cond b (Err Truncated) (Ok (take n xs, drop n xs)) in r ≡ Err Truncated) → length xs < n
    by true t e = ltb-true _ _ t
    by false t e = absurd cc

run_whole : (n : ℕ) (xs : List ℕ) → length xs ≡ n → run_in Truncated n xs ≡ Ok (xs, [])
unfolding run_in
run_whole n xs e =
    let long : ltb (length xs) n ≡ false = le-ltb (length xs) n (omega (arith, e)) in
    rw (long, take_all n xs (omega (arith, e)), drop_all n xs (omega (arith, e))) refl

-- ---- zeros

zeros_value : (n : ℕ) → value_in 256 (zeros n) ≡ 0
zeros_value zero = refl
zeros_value (suc n) = omega (arith, zeros_value n)

zeros_dropped : (h n : ℕ) → value_in 256 (drop h (zeros n)) ≡ 0
zeros_dropped zero n = zeros_value n
zeros_dropped (suc h) zero = refl
zeros_dropped (suc h) (suc n) = zeros_dropped h n

padded_value : (h : ℕ) (xs : List ℕ) (n : ℕ) → value_in 256 (drop h (xs ++ zeros n)) ≡ value_in 256 (drop h xs)
padded_value zero xs n =
    let none : 256 ^ length xs * value_in 256 (zeros n) ≡ 0 = ap (λ (v : ℕ). 256 ^ length xs * v) (zeros_value n) ∙ omega arith in
    value-append 256 xs (zeros n) ∙ omega (arith, none)
padded_value (suc h) [] n = zeros_dropped (suc h) n
padded_value (suc h) (x ∷ xs) n = padded_value h xs n

padded_len : (xs : List ℕ) (k : ℕ) → length xs < k → length (xs ++ zeros (k - length xs)) ≡ k
padded_len xs k lt = length-append xs (zeros (k - length xs)) ∙ omega (arith, zeros_length (k - length xs))

drop_fits : (h : ℕ) (xs : List ℕ) → AreOctets xs → AreOctets (drop h xs)
drop_fits zero xs fits = fits
drop_fits (suc h) [] fits = tt
drop_fits (suc h) (x ∷ xs) fits = drop_fits h xs fits.1

-- ---- time stamps

stamp_read : (a b c d e f g m : ℕ) → scts_in (a ∷ b ∷ c ∷ d ∷ e ∷ f ∷ g ∷ []) ≡ Some m → time_in (a ∷ b ∷ c ∷ d ∷ e ∷ f ∷ g ∷ []) ≡ Ok (m, [])
unfolding time_in run_in
stamp_read a b c d e f g m h = rw h refl

found : (o : Option ℕ) (bad : TpduFault) (e : TpduFault) → (bad ≡ e → ⊥) → ok_or o bad ≡ Err e → ⊥
found (Some m) bad e other p = absurd cc
found None bad e other p = other (let q : bad ≡ e = cc in q)

-- a stamp whose octets are missing is one once they are those of the first of January
stamp_by : (xs : List ℕ) (m : ℕ) → length xs < 7 → AreOctets xs → scts_in (completed xs) ≡ Some m → Grows time_in xs
stamp_by [] m lt fits h = (0 ∷ 16 ∷ 16 ∷ 0 ∷ 0 ∷ 0 ∷ 0 ∷ [], ((omega arith, (omega arith, (omega arith, zeros_octets 4))), (m, stamp_read 0 16 16 0 0 0 0 m h)))
stamp_by (a ∷ []) m lt fits h = (16 ∷ 16 ∷ 0 ∷ 0 ∷ 0 ∷ 0 ∷ [], ((omega arith, (omega arith, zeros_octets 4)), (m, stamp_read a 16 16 0 0 0 0 m h)))
stamp_by (a ∷ b ∷ []) m lt fits h = (16 ∷ 0 ∷ 0 ∷ 0 ∷ 0 ∷ [], ((omega arith, zeros_octets 4), (m, stamp_read a b 16 0 0 0 0 m h)))
stamp_by (a ∷ b ∷ c ∷ []) m lt fits h = (0 ∷ 0 ∷ 0 ∷ 0 ∷ [], (zeros_octets 4, (m, stamp_read a b c 0 0 0 0 m h)))
stamp_by (a ∷ b ∷ c ∷ d ∷ []) m lt fits h = (0 ∷ 0 ∷ 0 ∷ [], (zeros_octets 3, (m, stamp_read a b c d 0 0 0 m h)))
stamp_by (a ∷ b ∷ c ∷ d ∷ e ∷ []) m lt fits h = (0 ∷ 0 ∷ [], (zeros_octets 2, (m, stamp_read a b c d e 0 0 m h)))
stamp_by (a ∷ b ∷ c ∷ d ∷ e ∷ f ∷ []) m lt fits h = (0 ∷ [], ((omega arith, tt), (m, stamp_read a b c d e f 0 m h)))
stamp_by (a ∷ b ∷ c ∷ d ∷ e ∷ f ∷ g ∷ xs) m lt fits h = absurd (omega arith)

time_grows : (xs : List ℕ) → AreOctets xs → time_in xs ≡ Err Truncated → Grows time_in xs
unfolding time_in
time_grows xs fits e = elim (cause_of (ok_or (scts_in (completed xs)) BadTime) (λ m. run_in Truncated 7 xs >>= (λ stamp. Ok (m, stamp.1))) Truncated e) [
  | at_once p ↦ absurd (found (scts_in (completed xs)) BadTime Truncated time_isn't p)
  | behind m p q ↦ elim (cause_of (run_in Truncated 7 xs) (λ stamp. Ok (m, stamp.1)) Truncated q) [
    | at_once r ↦ stamp_by xs m (run_is_short 7 xs r) fits (ok_or_is (scts_in (completed xs)) m p)
    | behind x r s ↦ absurd (no_fault {X = ℕ × List ℕ} (m, x.1) Truncated s)
  ]
]

first_second : scts_in (0 ∷ 16 ∷ 16 ∷ 0 ∷ 0 ∷ 0 ∷ 0 ∷ []) ≡ Some 946684800
unfolding scts_in clock_in zone_in moment_in days_from_civil day_count days_of_years days_of_months
first_second = refl

pub time_completes : Completes time_in
time_completes = record {
  grows = time_grows;
  starts = (0 ∷ 16 ∷ 16 ∷ 0 ∷ 0 ∷ 0 ∷ 0 ∷ [], ((omega arith, (omega arith, (omega arith, zeros_octets 4))), (946684800, stamp_read 0 16 16 0 0 0 0 946684800 first_second)));
}

-- ---- digits

two_digits_front : (xs : List ℕ) (x : (ℕ × ℕ) × List ℕ) → AreOctets xs → two_digits_in xs ≡ Ok x → (text : List ℕ) × ((xs ≡ text ++ x.1) × ((ys : List ℕ) → two_digits_in (text ++ ys) ≡ Ok (x.0, ys)))
two_digits_front xs x fits e =
    let t = two_digits_takes xs x fits e in
    ((semi_octet x.0.0 + 16 * semi_octet x.0.1) ∷ [], (t.parts, λ ys. two_digits_again x.0.0 x.0.1 ys t.low_is t.high_is))

pub two_digits_field_is : IsField two_digits_in
two_digits_field_is = record { front = two_digits_front; untrailed = two_untrailed }

last_digit_front : (xs : List ℕ) (x : ℕ × List ℕ) → AreOctets xs → last_digit_in xs ≡ Ok x → (text : List ℕ) × ((xs ≡ text ++ x.1) × ((ys : List ℕ) → last_digit_in (text ++ ys) ≡ Ok (x.0, ys)))
last_digit_front xs x fits e =
    let t = last_digit_takes xs x fits e in
    ((semi_octet x.0 + 240) ∷ [], (t.parts, λ ys. last_digit_again x.0 ys t.digit))

pub last_digit_field_is : IsField last_digit_in
last_digit_field_is = record { front = last_digit_front; untrailed = last_untrailed }

two_digits_grow : (xs : List ℕ) → AreOctets xs → two_digits_in xs ≡ Err Truncated → Grows two_digits_in xs
unfolding two_digits_in
two_digits_grow [] fits e = (0 ∷ [], ((omega arith, tt), ((48, 48), refl)))
two_digits_grow (o ∷ xs) fits e = let p = passed (not (eqb (o % 16) 15) && not (eqb (o / 16) 15)) BadAddress _ address_isn't e in absurd (no_fault {X = (ℕ × ℕ) × List ℕ} _ Truncated p.1)

two_digits_none : two_digits_in [] ≡ Err Truncated
unfolding two_digits_in
two_digits_none = refl

last_digit_none : last_digit_in [] ≡ Err Truncated
unfolding last_digit_in
last_digit_none = refl

two_digits_complete : Completes two_digits_in
two_digits_complete = record { grows = two_digits_grow; starts = two_digits_grow [] tt two_digits_none }

last_digit_grows : (xs : List ℕ) → AreOctets xs → last_digit_in xs ≡ Err Truncated → Grows last_digit_in xs
unfolding last_digit_in
last_digit_grows [] fits e = (240 ∷ [], ((omega arith, tt), (48, refl)))
last_digit_grows (o ∷ xs) fits e = let p = passed (not (eqb (o % 16) 15) && eqb (o / 16) 15) BadAddress _ address_isn't e in absurd (no_fault {X = ℕ × List ℕ} _ Truncated p.1)

last_digit_completes : Completes last_digit_in
last_digit_completes = record { grows = last_digit_grows; starts = last_digit_grows [] tt last_digit_none }

digits_field_is : (n : ℕ) → IsField (digits_in n)
unfolding digits_in
digits_field_is zero = pure_field _
digits_field_is (suc zero) = bind_field last_digit_in _ last_digit_field_is (λ d. pure_field _)
digits_field_is (suc (suc n)) = bind_field two_digits_in _ two_digits_field_is (λ t. bind_field (digits_in n) _ (digits_field_is n) (λ ds. pure_field _))

digits_complete : (n : ℕ) → Completes (digits_in n)
unfolding digits_in
digits_complete zero = pure_completes _
digits_complete (suc zero) = bind_completes last_digit_in _ last_digit_field_is last_digit_completes (λ d. pure_completes _)
digits_complete (suc (suc n)) = bind_completes two_digits_in _ two_digits_field_is two_digits_complete (λ t. bind_completes (digits_in n) _ (digits_field_is n) (digits_complete n) (λ ds. pure_completes _))

-- ---- names

whole_name : (count : ℕ) (zs : List ℕ) → length zs ≡ octets_for count → eqb (value_in 256 zs / 128 ^ name_length count) 0 ≡ true → (text : List ℕ) × (name_in count zs ≡ Ok (text, []))
unfolding name_in
whole_name count zs len clear =
    let k = octets_for count in
    let all : take k zs ≡ zs = take_all k zs (omega (arith, len)) in
    let test : eqb (value_in 256 (take k zs) / 128 ^ name_length count) 0 ≡ true = ap (λ (l : List ℕ). eqb (value_in 256 l / 128 ^ name_length count) 0) all ∙ clear in
    (characters_of (base_digits 128 (name_length count) (value_in 256 (take k zs))), rw (test, run_whole k zs len) refl)

name_grows : (count : ℕ) (xs : List ℕ) → AreOctets xs → name_in count xs ≡ Err Truncated → Grows (name_in count) xs
unfolding name_in
name_grows count xs fits e =
    let k = octets_for count in
    let n = name_length count in
    let p = passed (eqb (value_in 256 (take k xs) / 128 ^ n) 0) BadAddress _ address_isn't e in
    elim (cause_of (run_in Truncated k xs) _ Truncated p.1) [
      | at_once q ↦
          let lt = run_is_short k xs q in
          let here : eqb (value_in 256 xs / 128 ^ n) 0 ≡ true = ap (λ (l : List ℕ). eqb (value_in 256 l / 128 ^ n) 0) (sym (take_all k xs (omega (arith, lt)))) ∙ p.0 in
          let zs = xs ++ zeros (k - length xs) in
          let w = whole_name count zs (padded_len xs k lt) (ap (λ (v : ℕ). eqb (v / 128 ^ n) 0) (padded_value 0 xs (k - length xs)) ∙ here) in
          (zeros (k - length xs), (zeros_octets (k - length xs), w))
      | behind x q s ↦ absurd (no_fault {X = List ℕ × List ℕ} _ Truncated s)
    ]

no_quotient : (k : ℕ) → 0 / k ≡ 0
no_quotient k = omega arith

name_starts : (count : ℕ) → (ys : List ℕ) × (AreOctets ys × ((x : List ℕ) × (name_in count ys ≡ Ok (x, []))))
name_starts count =
    let k = octets_for count in
    let clear : eqb (value_in 256 (zeros k) / 128 ^ name_length count) 0 ≡ true = eq-eqb _ _ (ap (λ (v : ℕ). v / 128 ^ name_length count) (zeros_value k) ∙ no_quotient (128 ^ name_length count)) in
    let w = whole_name count (zeros k) (zeros_length k) clear in
    (zeros k, (zeros_octets k, w))

characters_complete : (b : Bool) (count : ℕ) → Completes (characters_in b count)
unfolding characters_in
characters_complete false count = digits_complete count
characters_complete true count = record { grows = name_grows count; starts = name_starts count }

-- ---- addresses

short_number : address_in (1 ∷ 129 ∷ 240 ∷ []) ≡ Ok (record { ton = Unknown; npi = 1; digits = 48 ∷ [] }, [])
unfolding address_in type_of_number_in characters_in digits_in last_digit_in
short_number = refl

abbrev address_made : ℕ → ℕ → TypeOfNumber → List ℕ × List ℕ → Result (Address × List ℕ) TpduFault
address_made count kind ton digits = Ok (record { ton = ton; npi = kind % 16; digits = digits.0 }, digits.1)

type_grows_not : (kind : ℕ) → type_of_number_in kind ≡ Err Truncated → ⊥
unfolding type_of_number_in
type_grows_not kind e = let p = passed (not (ltb kind 128)) BadAddress _ address_isn't e in type_found (type_of (kind / 16 - 8)) p.1
  where
    type_found : (o : Option TypeOfNumber) → ok_or o BadAddress ≡ Err Truncated → ⊥
    type_found (Some t) p = absurd cc
    type_found None p = absurd cc

unknown_type : type_of_number_in 129 ≡ Ok Unknown
unfolding type_of_number_in
unknown_type = refl

-- the length was judged first
counts : (count : ℕ) (rest : List ℕ) → address_in (count ∷ rest) ≡ Err Truncated → ltb 0 count && ltb count 21 ≡ true
unfolding address_in
counts count rest e = (passed (ltb 0 count && ltb count 21) BadAddress _ address_isn't e).0

-- what stands behind the type of address
value_grows : (count kind : ℕ) (rest : List ℕ) → AreOctets rest → ltb 0 count && ltb count 21 ≡ true → address_in (count ∷ kind ∷ rest) ≡ Err Truncated → Grows address_in (count ∷ kind ∷ rest)
unfolding address_in
value_grows count kind rest fits some e =
    let b = passed (ltb 0 count && ltb count 21) BadAddress _ address_isn't e in
    elim (cause_of (type_of_number_in kind) _ Truncated b.1) [
      | at_once q ↦ absurd (type_grows_not kind q)
      | behind ton q r ↦
          let c = passed (not (is_name ton) || ltb 1 count) BadAddress _ address_isn't r in
          elim (cause_of (characters_in (is_name ton) count rest) (address_made count kind ton) Truncated c.1) [
            | at_once s ↦
                let g = (characters_complete (is_name ton) count).grows rest fits s in
                (g.0, (g.1.0, (record { ton = ton; npi = kind % 16; digits = g.1.1.0 }, rw (some, q, c.0, g.1.1.1) refl)))
            | behind x s t ↦ absurd (no_fault {X = Address × List ℕ} _ Truncated t)
          ]
    ]

-- a number of so many digits
number_starts : (count : ℕ) → ltb 0 count && ltb count 21 ≡ true → Grows address_in (count ∷ [])
unfolding address_in
number_starts count some =
    let s = (characters_complete false count).starts in
    (129 ∷ s.0, ((omega arith, s.1.0), (record { ton = Unknown; npi = 1; digits = s.1.1.0 }, rw (some, unknown_type, s.1.1.1) refl)))

address_grows : (xs : List ℕ) → AreOctets xs → address_in xs ≡ Err Truncated → Grows address_in xs
address_grows [] fits e = (1 ∷ 129 ∷ 240 ∷ [], ((omega arith, (omega arith, (omega arith, tt))), (record { ton = Unknown; npi = 1; digits = 48 ∷ [] }, short_number)))
address_grows (count ∷ []) fits e = number_starts count (counts count [] e)
address_grows (count ∷ kind ∷ rest) fits e = value_grows count kind rest fits.1.1 (counts count (kind ∷ rest) e) e

pub address_completes : Completes address_in
address_completes = record { grows = address_grows; starts = (1 ∷ 129 ∷ 240 ∷ [], ((omega arith, (omega arith, (omega arith, tt))), (record { ton = Unknown; npi = 1; digits = 48 ∷ [] }, short_number))) }

-- ---- user data

abbrev IsClear : Coding → ℕ → ℕ → List ℕ → Type 0
IsClear Septets header n xs = value_in 256 (drop header xs) % 2 ^ fill_behind header n ≡ 0
IsClear Octets header n xs = Unit {0}
IsClear Ucs2 header n xs = Unit {0}
IsClear Compressed header n xs = Unit {0}

-- user data that its missing octets complete: its header, if its first octet is there, and its fill bits are right
record IsShort (coding : Coding) (with_header : Bool) (n : ℕ) (xs : List ℕ) : Type 0 where
  less : length xs < octets_of coding n
  fits : header_fits with_header (octets_of coding n) xs ≡ true
  clear : IsClear coding (header_octets with_header xs) n xs

too_short : (r : Result (Unit {0}) UnpackError) → (r ≡ Err NoMemory → ⊥) → of_test r ≡ Err Truncated → r ≡ Err TooShort
too_short (Ok done) none e = absurd cc
too_short (Err TooShort) none e = refl
too_short (Err BitsOutside) none e = absurd cc
too_short (Err NoMemory) none e = absurd (none refl)

abbrev test_by : Bool → Bool → Bool → Bool → Result (Unit {0}) UnpackError
test_by a b c d = cond (not a) (Err BitsOutside) (cond b (Err TooShort) (cond (c || not d) (Err BitsOutside) (Ok tt)))

no_memory : (a b c d : Bool) → test_by a b c d ≡ Err NoMemory → ⊥
no_memory false b c d e = absurd cc
no_memory true true c d e = absurd cc
no_memory true false true d e = absurd cc
no_memory true false false true e = absurd cc
no_memory true false false false e = absurd cc

short_says : (a b c d : Bool) → test_by a b c d ≡ Err TooShort → (a ≡ true) × (b ≡ true)
short_says true true c d e = (refl, refl)
short_says false b c d e = absurd cc
short_says true false true d e = absurd cc
short_says true false false true e = absurd cc
short_says true false false false e = absurd cc

ok_says : (a b c d : Bool) → test_by a b c d ≡ Ok tt → a ≡ true
ok_says true b c d e = refl
ok_says false b c d e = absurd cc

-- the octets behind a header are as many as its septets want
packs : (h n : ℕ) → h ≤ packed_len 0 n → packed_len (fill_behind h n) (n - header_septets h) ≡ packed_len 0 n - h
packs h n le = by (leb (header_septets h) n) refl
  where
    by : (b : Bool) → leb (header_septets h) n ≡ b → packed_len (cond b (7 * header_septets h - 8 * h) 0) (n - header_septets h) ≡ packed_len 0 n - h
    by true t = let room : header_septets h ≤ n = leb-true _ _ t in omega (arith, room, le)
    by false t = let room : n < header_septets h = leb-false _ _ t in omega (arith, room, le)

septets_short : (h n : ℕ) (xs : List ℕ) → h ≤ packed_len 0 n → tested (drop h (take (packed_len 0 n) xs)) (fill_behind h n) (n - header_septets h) ≡ Err TooShort
    → (length xs < packed_len 0 n) × (value_in 256 (drop h (take (packed_len 0 n) xs)) % 2 ^ fill_behind h n ≡ 0)
septets_short h n xs le e =
    let k = packed_len 0 n in
    let o = drop h (take k xs) in
    let fill = fill_behind h n in
    let m = n - header_septets h in
    let s = short_says (eqb (value_in 256 o % 2 ^ fill) 0) (ltb (length o) (packed_len fill m)) (ltb (packed_len fill m) (length o)) (ltb (value_in 256 o / 2 ^ fill) (128 ^ m)) e in
    let lt : length o < packed_len fill m = ltb-true _ _ s.1 in
    (omega (arith, lt, packs h n le, length-drop h (take k xs), length-take k xs, le), eqb-true _ _ s.0)

-- a header whose first octet is there ends within
within_any : (with_header : Bool) (k : ℕ) (xs : List ℕ) → header_fits with_header k xs ≡ true → header_octets with_header xs ≤ k
within_any false k xs e = omega arith
within_any true k [] e = omega arith
within_any true k (elements ∷ xs) e = let lt = ltb-true elements k e in omega (arith, lt)

content_short : (coding : Coding) (h n : ℕ) (xs : List ℕ) → h ≤ octets_of coding n → content_test coding h n (take (octets_of coding n) xs) ≡ Err Truncated → (length xs < octets_of coding n) × IsClear coding h n (take (octets_of coding n) xs)
content_short Septets h n xs le e =
    let o = drop h (take (packed_len 0 n) xs) in
    let fill = fill_behind h n in
    let m = n - header_septets h in
    septets_short h n xs le (too_short (tested o fill m) (no_memory (eqb (value_in 256 o % 2 ^ fill) 0) (ltb (length o) (packed_len fill m)) (ltb (packed_len fill m) (length o)) (ltb (value_in 256 o / 2 ^ fill) (128 ^ m))) e)
content_short Octets h n xs le e = absurd cc
content_short Ucs2 h n xs le e = absurd cc
content_short Compressed h n xs le e = absurd cc

content_ok : (coding : Coding) (h n : ℕ) (xs : List ℕ) (x : Unit {0}) → content_test coding h n xs ≡ Ok x → IsClear coding h n xs
content_ok Septets h n xs x e =
    let o = drop h xs in
    let fill = fill_behind h n in
    let m = n - header_septets h in
    eqb-true _ _ (ok_says (eqb (value_in 256 o % 2 ^ fill) 0) (ltb (length o) (packed_len fill m)) (ltb (packed_len fill m) (length o)) (ltb (value_in 256 o / 2 ^ fill) (128 ^ m)) (test_is (tested o fill m) x e))
content_ok Octets h n xs x e = tt
content_ok Ucs2 h n xs x e = tt
content_ok Compressed h n xs x e = tt

is_short : (coding : Coding) (with_header : Bool) (n : ℕ) (xs : List ℕ) → text_in coding with_header n xs ≡ Err Truncated → IsShort coding with_header n xs
unfolding text_in text_test
is_short coding with_header n xs e =
    let k = octets_of coding n in
    let t = take k xs in
    elim (cause_of (text_test coding with_header n t) (λ s. run_in Truncated k xs) Truncated e) [
      | at_once p ↦
          let a = passed (header_fits with_header k t) BadHeader _ header_isn't p in
          let b = content_short coding (header_octets with_header t) n xs (within_any with_header k t a.0) a.1 in
          let all : t ≡ xs = take_all k xs (let lt = b.0 in omega (arith, lt)) in
          subst (λ (l : List ℕ). IsShort coding with_header n l) all (record { less = subst (λ (l : List ℕ). length l < k) (sym all) b.0; fits = a.0; clear = b.1 })
      | behind s p q ↦
          let lt = run_is_short k xs q in
          let a = bind_ok (only_if (header_fits with_header k t) BadHeader) _ s p in
          let all : t ≡ xs = take_all k xs (omega (arith, lt)) in
          subst (λ (l : List ℕ). IsShort coding with_header n l) all (record { less = subst (λ (l : List ℕ). length l < k) (sym all) lt; fits = passes (header_fits with_header k t) BadHeader a.0 a.1; clear = content_ok coding (header_octets with_header t) n t s a.2 })
    ]

-- the header of octets that zeros complete
record IsPadded (coding : Coding) (with_header : Bool) (n : ℕ) (xs zs : List ℕ) : Type 0 where
  fits : header_fits with_header (octets_of coding n) zs ≡ true
  clear : IsClear coding (header_octets with_header zs) n xs

zero_mod : (k : ℕ) → 0 % k ≡ 0
zero_mod k = omega arith

clear_none : (coding : Coding) (h n : ℕ) → IsClear coding h n []
clear_none Septets h n = dropped_none h (fill_behind h n)
  where
    dropped_none : (h fill : ℕ) → value_in 256 (drop h []) % 2 ^ fill ≡ 0
    dropped_none zero fill = zero_mod (2 ^ fill)
    dropped_none (suc h) fill = zero_mod (2 ^ fill)
clear_none Octets h n = tt
clear_none Ucs2 h n = tt
clear_none Compressed h n = tt

zeros_header : (with_header : Bool) (k j : ℕ) → 0 < k → header_fits with_header k (zeros j) ≡ true
zeros_header false k j lt = refl
zeros_header true k zero lt = refl
zeros_header true k (suc j) lt = lt-ltb 0 k lt

padded : (coding : Coding) (with_header : Bool) (n j : ℕ) (xs : List ℕ) → IsShort coding with_header n xs → IsPadded coding with_header n xs (xs ++ zeros j)
padded coding with_header n j [] s = record { fits = zeros_header with_header (octets_of coding n) j s.less; clear = clear_none coding (header_octets with_header (zeros j)) n }
padded coding false n j (x ∷ xs) s = record { fits = refl; clear = s.clear }
padded coding true n j (x ∷ xs) s = record { fits = s.fits; clear = s.clear }

septets_whole : (h n : ℕ) (xs : List ℕ) → AreOctets xs → length xs < packed_len 0 n → h ≤ packed_len 0 n → value_in 256 (drop h xs) % 2 ^ fill_behind h n ≡ 0
    → tested (drop h (xs ++ zeros (packed_len 0 n - length xs))) (fill_behind h n) (n - header_septets h) ≡ Ok tt
septets_whole h n xs fits lt le clear =
    let k = packed_len 0 n in
    let zs = xs ++ zeros (k - length xs) in
    let o = drop h zs in
    let fill = fill_behind h n in
    let m = n - header_septets h in
    let v = padded_value h xs (k - length xs) in
    let len : length o ≡ packed_len fill m = length-drop h zs ∙ omega (arith, padded_len xs k lt, packs h n le) in
    let small : value_in 256 (drop h xs) < 256 ^ (length xs - h) = subst (λ (i : ℕ). value_in 256 (drop h xs) < 256 ^ i) (length-drop h xs) (value_below (drop h xs) (drop_fits h xs fits)) in
    let bits : 8 * (length xs - h) ≤ fill + 7 * m = omega (arith, lt, le, packs h n le) in
    let up : 2 ^ (8 * (length xs - h)) ≤ 2 ^ (fill + 7 * m) = pow-le-pow_right (omega arith) bits in
    let below : value_in 256 (drop h xs) < 2 ^ (fill + 7 * m) = omega (arith, small, up, octet_power (length xs - h)) in
    let a : eqb (value_in 256 o % 2 ^ fill) 0 ≡ true = eq-eqb _ _ (ap (λ (w : ℕ). w % 2 ^ fill) v ∙ clear) in
    let b : ltb (length o) (packed_len fill m) ≡ false = le-ltb _ _ (omega (arith, len)) in
    let c : ltb (packed_len fill m) (length o) ≡ false = le-ltb _ _ (omega (arith, len)) in
    let d : ltb (value_in 256 o / 2 ^ fill) (128 ^ m) ≡ true = ends_at (value_in 256 o) fill m ∙ ap (λ (w : ℕ). ltb w (2 ^ (fill + 7 * m))) v ∙ lt-ltb _ _ below in
    (λ i. test_by (a i) (b i) (c i) (d i))

content_whole : (coding : Coding) (h n : ℕ) (xs : List ℕ) → AreOctets xs → length xs < octets_of coding n → h ≤ octets_of coding n → IsClear coding h n xs
    → content_test coding h n (xs ++ zeros (octets_of coding n - length xs)) ≡ Ok tt
content_whole Septets h n xs fits lt le clear = ap of_test (septets_whole h n xs fits lt le clear)
content_whole Octets h n xs fits lt le clear = refl
content_whole Ucs2 h n xs fits lt le clear = refl
content_whole Compressed h n xs fits lt le clear = refl

text_whole : (coding : Coding) (with_header : Bool) (n : ℕ) (zs : List ℕ) → length zs ≡ octets_of coding n → header_fits with_header (octets_of coding n) zs ≡ true → content_test coding (header_octets with_header zs) n zs ≡ Ok tt
    → text_in coding with_header n zs ≡ Ok (zs, [])
unfolding text_in text_test
text_whole coding with_header n zs len fits content =
    let k = octets_of coding n in
    let all : take k zs ≡ zs = take_all k zs (omega (arith, len)) in
    rw (all, fits, content, run_whole k zs len) refl

text_grows : (coding : Coding) (with_header : Bool) (n : ℕ) (xs : List ℕ) → AreOctets xs → text_in coding with_header n xs ≡ Err Truncated → Grows (text_in coding with_header n) xs
text_grows coding with_header n xs fits e =
    let k = octets_of coding n in
    let j = k - length xs in
    let s = is_short coding with_header n xs e in
    let p = padded coding with_header n j xs s in
    let zs = xs ++ zeros j in
    let content = content_whole coding (header_octets with_header zs) n xs fits s.less (within_any with_header k zs p.fits) p.clear in
    (zeros j, (zeros_octets j, (zs, text_whole coding with_header n zs (padded_len xs k s.less) p.fits content)))

data_starts : (coding : Coding) (with_header : Bool) → Grows (user_data_in coding with_header) []
unfolding user_data_in text_in text_test run_in
data_starts Septets false = (0 ∷ [], ((omega arith, tt), (record { length = 0; octets = [] }, refl)))
data_starts Octets false = (0 ∷ [], ((omega arith, tt), (record { length = 0; octets = [] }, refl)))
data_starts Ucs2 false = (0 ∷ [], ((omega arith, tt), (record { length = 0; octets = [] }, refl)))
data_starts Compressed false = (0 ∷ [], ((omega arith, tt), (record { length = 0; octets = [] }, refl)))
data_starts Septets true = (1 ∷ 0 ∷ [], ((omega arith, (omega arith, tt)), (record { length = 1; octets = 0 ∷ [] }, refl)))
data_starts Octets true = (1 ∷ 0 ∷ [], ((omega arith, (omega arith, tt)), (record { length = 1; octets = 0 ∷ [] }, refl)))
data_starts Ucs2 true = (1 ∷ 0 ∷ [], ((omega arith, (omega arith, tt)), (record { length = 1; octets = 0 ∷ [] }, refl)))
data_starts Compressed true = (1 ∷ 0 ∷ [], ((omega arith, (omega arith, tt)), (record { length = 1; octets = 0 ∷ [] }, refl)))

data_grows : (coding : Coding) (with_header : Bool) (xs : List ℕ) → AreOctets xs → user_data_in coding with_header xs ≡ Err Truncated → Grows (user_data_in coding with_header) xs
unfolding user_data_in
data_grows coding with_header [] fits e = data_starts coding with_header
data_grows coding with_header (n ∷ xs) fits e =
    let a = passed (leb n (greatest_length coding)) UserDataTooLong _ long_isn't e in
    let b = passed (not with_header || ltb 0 n) BadHeader _ header_isn't a.1 in
    elim (cause_of (text_in coding with_header n xs) _ Truncated b.1) [
      | at_once p ↦
          let g = text_grows coding with_header n xs fits.1 p in
          (g.0, (g.1.0, (record { length = n; octets = g.1.1.0 }, rw (a.0, b.0, g.1.1.1) refl)))
      | behind x p q ↦ absurd (no_fault {X = UserData × List ℕ} _ Truncated q)
    ]

pub data_completes : (coding : Coding) (with_header : Bool) → Completes (user_data_in coding with_header)
data_completes coding with_header = record { grows = data_grows coding with_header; starts = data_starts coding with_header }

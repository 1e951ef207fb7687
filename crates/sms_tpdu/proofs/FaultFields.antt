-- The fields: what is read is read in front of anything, and no field finds octets left over.
use Rattle.std.proofs.Common.{◌≡◌, ℕ, zero, suc, ◌/◌, ◌%◌, ◌^◌, ◌-◌, Bool, true, false, cond, not, ◌&&◌, ◌||◌, eqb, ltb, leb, List, length, take, drop, Result, Ok, Err, Option, Some, None}
use Rattle.std.specs.Option.{ok_or}
use Rattle.sms_base.specs.Reading.{octet_in, run_in}
use Rattle.sms_base.specs.TimeStamp.{scts_in}
use Rattle.sms_base.specs.AddressKind.{is_name, type_of}
use Rattle.sms_alphabet.specs.Packing.{value_in, tested}
use Rattle.sms_alphabet.specs.declared.scheme.Coding.{Coding}
use Rattle.sms_alphabet.specs.declared.scheme.Coding.TheVariants.{Septets, Octets, Ucs2, Compressed}
use Rattle.sms_alphabet.specs.declared.unpacking.UnpackError.{UnpackError}
use Rattle.sms_alphabet.specs.declared.unpacking.UnpackError.TheVariants.{TooShort, SpareBits as BitsOutside, NoMemory}
use Rattle.sms_tpdu.specs.declared.fault.TpduFault.{TpduFault}
use Rattle.sms_tpdu.specs.declared.fault.TpduFault.TheVariants.{Truncated, TrailingOctets, BadAddress, BadTime, UserDataTooLong, BadHeader}
use Rattle.sms_tpdu.specs.AddressGrammar.{octets_for, name_length}
use Rattle.sms_tpdu.specs.AddressReading.{two_digits_in, last_digit_in, digits_in, name_in, characters_in, type_of_number_in, address_in}
use Rattle.sms_tpdu.specs.TimeReading.{completed, time_in}
use Rattle.sms_tpdu.specs.UserDataGrammar.{greatest_length, octets_of, header_octets, header_septets, fill_behind, user_data_field}
use Rattle.sms_tpdu.specs.UserDataReading.{header_fits, of_test, content_test, text_test, text_in, user_data_in}
use Rattle.sms_tpdu.specs.Bits.{bit}
use Rattle.sms_tpdu.specs.TpduGrammar.{report_coding}
use Rattle.sms_tpdu.specs.TpduReading.{relative_in, absolute_in, validity_in, optional_octet_in, optional_data_in, parameters_in}
use Rattle.sms_tpdu.proofs.Addresses.{address_takes, address_again}
use Rattle.sms_tpdu.proofs.Times.{time_takes, time_again}
use Rattle.sms_tpdu.proofs.Texts.{data_takes, data_again}
use Rattle.sms_tpdu.proofs.FaultSteps.{untrailed_bind, untrailed_test, Reading, IsField, octet_field_is, pure_field, bind_field}

run_untrailed : (n : ℕ) (xs : List ℕ) → run_in Truncated n xs ≡ Err TrailingOctets → ⊥
unfolding run_in
run_untrailed n xs e = by (ltb (length xs) n) e
  where
    by : (b : Bool) → (let r : Result (List ℕ × List ℕ) TpduFault = cond b (Err Truncated) (Ok (take n xs, drop n xs)) in r ≡ Err TrailingOctets) → ⊥
    by true e = absurd cc
    by false e = absurd cc

pub address_isn't : BadAddress ≡ TrailingOctets → ⊥
address_isn't p = absurd cc

pub time_isn't : BadTime ≡ TrailingOctets → ⊥
time_isn't p = absurd cc

long_isn't : UserDataTooLong ≡ TrailingOctets → ⊥
long_isn't p = absurd cc

header_isn't : BadHeader ≡ TrailingOctets → ⊥
header_isn't p = absurd cc

found_untrailed : {X : Type 0} (o : Option X) (bad : TpduFault) → (bad ≡ TrailingOctets → ⊥) → ok_or o bad ≡ Err TrailingOctets → ⊥
found_untrailed (Some x) bad other e = absurd cc
found_untrailed None bad other e = other (let q : bad ≡ TrailingOctets = cc in q)

-- ---- addresses

pub two_untrailed : (xs : List ℕ) → two_digits_in xs ≡ Err TrailingOctets → ⊥
unfolding two_digits_in
two_untrailed xs e =
    untrailed_bind (octet_in Truncated xs) _ (octet_field_is.untrailed xs)
    (λ o p. untrailed_test (not (eqb (o.0 % 16) 15) && not (eqb (o.0 / 16) 15)) BadAddress _ address_isn't (λ q. absurd cc) p) e

pub last_untrailed : (xs : List ℕ) → last_digit_in xs ≡ Err TrailingOctets → ⊥
unfolding last_digit_in
last_untrailed xs e =
    untrailed_bind (octet_in Truncated xs) _ (octet_field_is.untrailed xs)
    (λ o p. untrailed_test (not (eqb (o.0 % 16) 15) && eqb (o.0 / 16) 15) BadAddress _ address_isn't (λ q. absurd cc) p) e

digits_untrailed : (n : ℕ) (xs : List ℕ) → digits_in n xs ≡ Err TrailingOctets → ⊥
unfolding digits_in
digits_untrailed zero xs e = absurd cc
digits_untrailed (suc zero) xs e = untrailed_bind (last_digit_in xs) _ (last_untrailed xs) (λ d p. absurd cc) e
digits_untrailed (suc (suc n)) xs e =
    untrailed_bind (two_digits_in xs) _ (two_untrailed xs) (λ t p. untrailed_bind (digits_in n t.1) _ (digits_untrailed n t.1) (λ ds q. absurd cc) p) e

name_untrailed : (count : ℕ) (xs : List ℕ) → name_in count xs ≡ Err TrailingOctets → ⊥
unfolding name_in
name_untrailed count xs e =
    untrailed_test (eqb (value_in 256 (take (octets_for count) xs) / 128 ^ name_length count) 0) BadAddress _ address_isn't (λ p. untrailed_bind (run_in Truncated (octets_for count) xs) _ (run_untrailed (octets_for count) xs) (λ t q. absurd cc) p) e

characters_untrailed : (b : Bool) (count : ℕ) (xs : List ℕ) → characters_in b count xs ≡ Err TrailingOctets → ⊥
unfolding characters_in
characters_untrailed false count xs e = digits_untrailed count xs e
characters_untrailed true count xs e = name_untrailed count xs e

type_untrailed : (kind : ℕ) → type_of_number_in kind ≡ Err TrailingOctets → ⊥
unfolding type_of_number_in
type_untrailed kind e = untrailed_test (not (ltb kind 128)) BadAddress _ address_isn't (λ p. found_untrailed (type_of (kind / 16 - 8)) BadAddress address_isn't p) e

address_untrailed : (xs : List ℕ) → address_in xs ≡ Err TrailingOctets → ⊥
unfolding address_in
address_untrailed xs e =
    untrailed_bind (octet_in Truncated xs) _ (octet_field_is.untrailed xs) (λ count p.
    untrailed_test (ltb 0 count.0 && ltb count.0 21) BadAddress _ address_isn't (λ q.
    untrailed_bind (octet_in Truncated count.1) _ (octet_field_is.untrailed count.1) (λ kind r.
    untrailed_bind (type_of_number_in kind.0) _ (type_untrailed kind.0) (λ ton s.
    untrailed_test (not (is_name ton) || ltb 1 count.0) BadAddress _ address_isn't (λ t.
    untrailed_bind (characters_in (is_name ton) count.0 kind.1) _ (characters_untrailed (is_name ton) count.0 kind.1) (λ digits u. absurd cc) t) s) r) q) p) e

pub address_field_is : IsField address_in
address_field_is = record {
  front = λ xs x fits e. let t = address_takes xs x fits e in (t.text, (t.parts, λ ys. address_again t.text x.0 ys t.is));
  untrailed = address_untrailed;
}

-- ---- time stamps

time_untrailed : (xs : List ℕ) → time_in xs ≡ Err TrailingOctets → ⊥
unfolding time_in
time_untrailed xs e =
    untrailed_bind (ok_or (scts_in (completed xs)) BadTime) _ (λ p. found_untrailed (scts_in (completed xs)) BadTime time_isn't p) (λ m p.
    untrailed_bind (run_in Truncated 7 xs) _ (run_untrailed 7 xs) (λ t q. absurd cc) p) e

pub time_field_is : IsField time_in
time_field_is = record {
  front = λ xs x fits e. let t = time_takes xs x fits e in (t.text, (t.parts, λ ys. time_again t.text x.0 ys t.is));
  untrailed = time_untrailed;
}

-- ---- user data

of_test_untrailed : (r : Result (Unit {0}) UnpackError) → of_test r ≡ Err TrailingOctets → ⊥
of_test_untrailed (Ok done) e = absurd cc
of_test_untrailed (Err TooShort) e = absurd cc
of_test_untrailed (Err BitsOutside) e = absurd cc
of_test_untrailed (Err NoMemory) e = absurd cc

content_untrailed : (coding : Coding) (header n : ℕ) (xs : List ℕ) → content_test coding header n xs ≡ Err TrailingOctets → ⊥
content_untrailed Septets header n xs e = of_test_untrailed (tested (drop header xs) (fill_behind header n) (n - header_septets header)) e
content_untrailed Octets header n xs e = absurd cc
content_untrailed Ucs2 header n xs e = absurd cc
content_untrailed Compressed header n xs e = absurd cc

text_untrailed : (coding : Coding) (with_header : Bool) (n : ℕ) (xs : List ℕ) → text_in coding with_header n xs ≡ Err TrailingOctets → ⊥
unfolding text_in text_test
text_untrailed coding with_header n xs e =
    let there = take (octets_of coding n) xs in
    untrailed_bind (text_test coding with_header n there) _
    (λ p. untrailed_test (header_fits with_header (octets_of coding n) there) BadHeader _ header_isn't (λ q. content_untrailed coding (header_octets with_header there) n there q) p)
    (λ s p. run_untrailed (octets_of coding n) xs p) e

data_untrailed : (coding : Coding) (with_header : Bool) (xs : List ℕ) → user_data_in coding with_header xs ≡ Err TrailingOctets → ⊥
unfolding user_data_in
data_untrailed coding with_header xs e =
    untrailed_bind (octet_in Truncated xs) _ (octet_field_is.untrailed xs) (λ n p.
    untrailed_test (leb n.0 (greatest_length coding)) UserDataTooLong _ long_isn't (λ q.
    untrailed_test (not with_header || ltb 0 n.0) BadHeader _ header_isn't (λ r.
    untrailed_bind (text_in coding with_header n.0 n.1) _ (text_untrailed coding with_header n.0 n.1) (λ t s. absurd cc) r) q) p) e

pub data_field_is : (coding : Coding) (with_header : Bool) → IsField (user_data_in coding with_header)
data_field_is coding with_header = record {
  front = λ xs x fits e. let t = data_takes coding with_header xs x fits e in (user_data_field x.0, (t.parts, λ ys. data_again coding with_header x.0 ys t.is));
  untrailed = data_untrailed coding with_header;
}

-- ---- validity periods and parameters

pub relative_field_is : IsField relative_in
unfolding relative_in
relative_field_is = bind_field (octet_in Truncated) _ octet_field_is (λ period. pure_field _)

pub absolute_field_is : IsField absolute_in
unfolding absolute_in
absolute_field_is = bind_field time_in _ time_field_is (λ limit. pure_field _)

either_field : {X : Type 0} (b : Bool) (r s : Reading X) → IsField r → IsField s → IsField (λ xs. cond b (r xs) (s xs))
either_field true r s h k = record { front = h.front; untrailed = h.untrailed }
either_field false r s h k = record { front = k.front; untrailed = k.untrailed }

pub validity_field_is : (format : ℕ) → IsField (validity_in format)
unfolding validity_in
validity_field_is format = either_field (eqb format 0) _ _ (pure_field _) (either_field (eqb format 2) relative_in absolute_in relative_field_is absolute_field_is)

pub optional_octet_field_is : (b : Bool) → IsField (optional_octet_in b)
unfolding optional_octet_in
optional_octet_field_is false = pure_field _
optional_octet_field_is true = bind_field (octet_in Truncated) _ octet_field_is (λ octet. pure_field _)

pub optional_data_field_is : (b : Bool) (coding : Coding) (with_header : Bool) → IsField (optional_data_in b coding with_header)
unfolding optional_data_in
optional_data_field_is false coding with_header = pure_field _
optional_data_field_is true coding with_header = bind_field (user_data_in coding with_header) _ (data_field_is coding with_header) (λ text. pure_field _)

pub parameters_field_is : (indicator : ℕ) (with_header : Bool) → IsField (parameters_in indicator with_header)
unfolding parameters_in
parameters_field_is indicator with_header =
    bind_field (optional_octet_in (bit indicator 1)) _ (optional_octet_field_is (bit indicator 1)) (λ protocol.
    bind_field (optional_octet_in (bit indicator 2)) _ (optional_octet_field_is (bit indicator 2)) (λ scheme.
    bind_field (optional_data_in (bit indicator 4) (report_coding scheme) with_header) _ (optional_data_field_is (bit indicator 4) (report_coding scheme) with_header) (λ text. pure_field _)))

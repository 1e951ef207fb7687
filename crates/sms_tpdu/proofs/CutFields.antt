-- The fields of a list that was cut: what is read is the same, or the list ends too early.
use Rattle.std.proofs.Common.{◌≡◌, ℕ, zero, suc, ◌+◌, ◌-◌, ◌*◌, ◌/◌, ◌%◌, ◌^◌, ◌<◌, ◌≤◌, Bool, true, false, not, ◌||◌, cond, eqb, ltb, leb, List, [], ◌∷◌, ◌++◌, length, get_or, take, drop, Some, Result, Ok, Err, refl, sym, ap, subst, ◌∙◌, arith, inl, inr, append_assoc}
use Rattle.std.specs.Prelude.{◌⊎◌}
use Rattle.std.specs.Option.{ok_or}
use Rattle.std.proofs.lemmas.Bool.{ltb-true, ltb-false, eqb-true, lt-ltb, le-leb, eq-eqb}
use Rattle.std.proofs.lemmas.List.{take-append-drop, take-append-le, length-append, length-take, append-nil}
use Rattle.std.proofs.Math.Nat.{one-le-pow}
use Rattle.sms_base.specs.Reading.{◌>>=◌, only_if, octet_in, run_in}
use Rattle.sms_base.proofs.Steps.{bind_ok, passes, ok_is, run_takes}
use Rattle.sms_base.proofs.Cuts.{Less, CutsShort, cuts_octet, cuts_run, cuts_pure, cuts_bind, cuts_test}
use Rattle.sms_base.proofs.Lists.{no_items}
use Rattle.sms_base.specs.TimeStamp.{scts_in}
use Rattle.sms_base.specs.AddressKind.{is_name}
use Rattle.sms_base.specs.Alphabet.{text_in as characters_of}
use Rattle.sms_alphabet.specs.Packing.{value_in, packed_len, tested, digits_in as base_digits}
use Rattle.sms_alphabet.specs.declared.scheme.Coding.{Coding}
use Rattle.sms_alphabet.specs.declared.scheme.Coding.TheVariants.{Septets, Octets, Ucs2, Compressed}
use Rattle.sms_alphabet.specs.declared.unpacking.UnpackError.{UnpackError}
use Rattle.sms_alphabet.specs.declared.unpacking.UnpackError.TheVariants.{TooShort, SpareBits as BitsOutside}
use Rattle.sms_alphabet.proofs.Value.{value-append}
use Rattle.sms_tpdu.specs.declared.fault.TpduFault.{TpduFault}
use Rattle.sms_tpdu.specs.declared.fault.TpduFault.TheVariants.{Truncated, BadAddress, BadTime, UserDataTooLong, BadHeader}
use Rattle.sms_tpdu.specs.AddressGrammar.{octets_for, name_length}
use Rattle.sms_tpdu.specs.AddressReading.{two_digits_in, last_digit_in, digits_in, name_in, characters_in, type_of_number_in, address_in}
use Rattle.sms_tpdu.specs.TimeReading.{completed, time_in}
use Rattle.sms_tpdu.specs.UserDataGrammar.{octets_of, header_septets, fill_behind}
use Rattle.sms_tpdu.specs.UserDataReading.{of_test, content_test, text_test, text_in, user_data_in}
use Rattle.sms_tpdu.proofs.Times.{ok_or_is, whole_completed}
use Rattle.sms_tpdu.proofs.Addresses.{quotient_zero, zero_quotient}
use Rattle.sms_tpdu.proofs.CutStamps.{cut_stamp}
use Rattle.sms_tpdu.proofs.Texts.{test_is}

-- ---- steps

-- a value that doesn't depend on the octets
pub cuts_value : {X Y E : Type 0} (f : E) (r : Result X E) (k : X → List ℕ → Result (Y × List ℕ) E) → ((x : X) → CutsShort f (k x)) → CutsShort f (λ xs. r >>= (λ x. k x xs))
cuts_value f (Ok x) k h xs ys z e = h x xs ys z e
cuts_value f (Err d) k h xs ys z e = absurd cc

same_run : (n : ℕ) (xs ys : List ℕ) → n ≤ length xs → take n (xs ++ ys) ≡ take n xs
same_run n xs ys le = rw take-append-le refl

-- it passes, or the list ends too early
abbrev Passing : {E : Type 0} → E → Result (Unit {0}) E → Type 0
Passing f r = (r ≡ Ok tt) ⊎ (r ≡ Err f)

front_by : {V E : Type 0} (f : E) (k : ℕ) (check : List ℕ → Result (Unit {0}) E) (r : List ℕ → Result (V × List ℕ) E) (xs ys : List ℕ) (z : V × List ℕ) (b : Bool) → ltb (length xs) k ≡ b
    → (length xs < k → r xs ≡ Err f) → (length xs < k → (u : Unit {0}) → check (take k (xs ++ ys)) ≡ Ok u → Passing f (check (take k xs))) → (r (xs ++ ys) ≡ Ok z → Less f (r xs) ys z)
    → (check (take k (xs ++ ys)) >>= (λ u. r (xs ++ ys))) ≡ Ok z → Less f (check (take k xs) >>= (λ u. r xs)) ys z
front_by {V} {E} f k check r xs ys z true t short passing cut e =
    let a = bind_ok (check (take k (xs ++ ys))) _ z e in
    let lt : length xs < k = ltb-true _ _ t in
    elim (passing lt a.0 a.1) [
      | inl p ↦ inr (ap (λ (m : Result (Unit {0}) E). m >>= (λ u. r xs)) p ∙ short lt)
      | inr q ↦ inr (ap (λ (m : Result (Unit {0}) E). m >>= (λ u. r xs)) q)
    ]
front_by {V} {E} f k check r xs ys z false t short passing cut e =
    let a = bind_ok (check (take k (xs ++ ys))) _ z e in
    let le : k ≤ length xs = ltb-false _ _ t in
    let here : check (take k xs) ≡ Ok a.0 = ap check (sym (same_run k xs ys le)) ∙ a.1 in
    let step : (check (take k xs) >>= (λ u. r xs)) ≡ r xs = ap (λ (m : Result (Unit {0}) E). m >>= (λ u. r xs)) here in
    subst (λ (m : Result (V × List ℕ) E). Less f m ys z) (sym step) (cut a.2)

-- a test of the octets that are there, and a reading that wants as many
front_cut : {V E : Type 0} (f : E) (k : ℕ) (check : List ℕ → Result (Unit {0}) E) (r : List ℕ → Result (V × List ℕ) E) → CutsShort f r → ((xs : List ℕ) → length xs < k → r xs ≡ Err f)
    → ((xs ys : List ℕ) → length xs < k → (u : Unit {0}) → check (take k (xs ++ ys)) ≡ Ok u → Passing f (check (take k xs))) → CutsShort f (λ xs. check (take k xs) >>= (λ u. r xs))
front_cut f k check r cut short passing xs ys z e = front_by f k check r xs ys z (ltb (length xs) k) refl (short xs) (passing xs ys) (cut xs ys z) e

run_short : {E : Type 0} (f : E) (k : ℕ) (xs : List ℕ) → length xs < k → run_in f k xs ≡ Err f
unfolding run_in
run_short f k xs lt = rw (lt-ltb (length xs) k lt) refl

-- a run, and a value of it
run_value_cut : {V E : Type 0} (f : E) (k : ℕ) (value : List ℕ → V) → CutsShort f (λ xs. run_in f k xs >>= (λ t. Ok (value (take k xs), t.1)))
run_value_cut {V} {E} f k value xs ys z e =
    let a = bind_ok (run_in f k (xs ++ ys)) _ z e in
    elim (cuts_run f k xs ys a.0 a.1) [
      | inl p ↦
          let t = run_takes f k xs (a.0.0, p.0) p.1 in
          let le : k ≤ length xs = omega (arith, ap length t.0, length-append a.0.0 p.0, t.1) in
          let is : (let w : V × List ℕ = (value (take k (xs ++ ys)), a.0.1) in w ≡ z) = ok_is {E = E} (value (take k (xs ++ ys)), a.0.1) z a.2 in
          let step : (run_in f k xs >>= (λ t. Ok (value (take k xs), t.1))) ≡ Ok (value (take k xs), p.0) = ap (λ (m : Result (List ℕ × List ℕ) E). m >>= (λ t. Ok (value (take k xs), t.1))) p.1 in
          let same : value (take k xs) ≡ z.0 = ap value (sym (same_run k xs ys le)) ∙ ap (λ (w : V × List ℕ). w.0) is in
          inl (p.0, step ∙ ap (λ (v : V). Ok (v, p.0)) same, p.2 ∙ ap (λ (w : V × List ℕ). w.1) is)
      | inr p ↦ inr (ap (λ (m : Result (List ℕ × List ℕ) E). m >>= (λ t. Ok (value (take k xs), t.1))) p)
    ]

-- ---- addresses

pub two_digits_cut : CutsShort Truncated two_digits_in
unfolding two_digits_in
two_digits_cut = cuts_bind Truncated (octet_in Truncated) _ (cuts_octet Truncated) (λ o. cuts_test Truncated _ BadAddress _ (cuts_pure Truncated _))

pub last_digit_cut : CutsShort Truncated last_digit_in
unfolding last_digit_in
last_digit_cut = cuts_bind Truncated (octet_in Truncated) _ (cuts_octet Truncated) (λ o. cuts_test Truncated _ BadAddress _ (cuts_pure Truncated _))

pub digits_cut : (n : ℕ) → CutsShort Truncated (digits_in n)
unfolding digits_in
digits_cut zero = cuts_pure Truncated _
digits_cut (suc zero) = cuts_bind Truncated last_digit_in _ last_digit_cut (λ d. cuts_pure Truncated _)
digits_cut (suc (suc n)) = cuts_bind Truncated two_digits_in _ two_digits_cut (λ t. cuts_bind Truncated (digits_in n) _ (digits_cut n) (λ ds. cuts_pure Truncated _))

less_value : (xs ys : List ℕ) → value_in 256 xs ≤ value_in 256 (xs ++ ys)
less_value xs ys = omega (arith, value-append 256 xs ys)

-- the value of a front is no greater
front_value : (n : ℕ) (xs ys : List ℕ) → value_in 256 (take n xs) ≤ value_in 256 (take n (xs ++ ys))
front_value zero xs ys = omega arith
front_value (suc n) [] ys = omega arith
front_value (suc n) (x ∷ xs) ys = omega (arith, front_value n xs ys)

below_front : (v w k : ℕ) → 0 < k → v ≤ w → eqb (w / k) 0 ≡ true → eqb (v / k) 0 ≡ true
below_front v w k pos le e =
    let lt : w < k = quotient_zero w k pos e in
    zero_quotient v k (omega arith)

name_passing : (k n : ℕ) (xs ys : List ℕ) (u : Unit {0}) → only_if (eqb (value_in 256 (take k (xs ++ ys)) / 128 ^ n) 0) BadAddress ≡ Ok u → Passing Truncated (only_if (eqb (value_in 256 (take k xs) / 128 ^ n) 0) BadAddress)
name_passing k n xs ys u e =
    let pos : 0 < 128 ^ n = omega (arith, one-le-pow n 128 (omega arith)) in
    let clear = below_front (value_in 256 (take k xs)) (value_in 256 (take k (xs ++ ys))) (128 ^ n) pos (front_value k xs ys) (passes _ BadAddress u e) in
    inl (rw clear refl)

abbrev named_run : ℕ → (List ℕ → List ℕ) → List ℕ → Result (List ℕ × List ℕ) TpduFault
named_run k value xs = run_in Truncated k xs >>= (λ t. Ok (value (take k xs), t.1))

name_short : (k : ℕ) (value : List ℕ → List ℕ) (xs : List ℕ) → length xs < k → named_run k value xs ≡ Err Truncated
name_short k value xs lt = rw (run_short Truncated k xs lt) refl

pub name_cut : (count : ℕ) → CutsShort Truncated (name_in count)
unfolding name_in
name_cut count =
    front_cut Truncated (octets_for count) (λ t. only_if (eqb (value_in 256 t / 128 ^ name_length count) 0) BadAddress) _
    (run_value_cut Truncated (octets_for count) (λ t. characters_of (base_digits 128 (name_length count) (value_in 256 t))))
    (name_short (octets_for count) (λ t. characters_of (base_digits 128 (name_length count) (value_in 256 t))))
    (λ xs ys lt u e. name_passing (octets_for count) (name_length count) xs ys u e)

pub characters_cut : (b : Bool) (count : ℕ) → CutsShort Truncated (characters_in b count)
unfolding characters_in
characters_cut false count = digits_cut count
characters_cut true count = name_cut count

pub address_cut : CutsShort Truncated address_in
unfolding address_in
address_cut =
    cuts_bind Truncated (octet_in Truncated) _ (cuts_octet Truncated) (λ count. cuts_test Truncated _ BadAddress _
    (cuts_bind Truncated (octet_in Truncated) _ (cuts_octet Truncated) (λ kind. cuts_value Truncated (type_of_number_in kind) _
    (λ ton. cuts_test Truncated _ BadAddress _
    (cuts_bind Truncated (characters_in (is_name ton) count) _ (characters_cut (is_name ton) count) (λ digits. cuts_pure Truncated _))))))

-- ---- time stamps

stamp_front : (xs ys : List ℕ) (m : ℕ) → length xs < 7 → scts_in (completed (xs ++ ys)) ≡ Some m → (n : ℕ) × (scts_in (completed xs) ≡ Some n)
stamp_front [] ys m lt h = (cut_stamp (get_or ys 0 0) (get_or ys 1 16) (get_or ys 2 16) (get_or ys 3 0) (get_or ys 4 0) (get_or ys 5 0) (get_or ys 6 0) m h).none
stamp_front (a ∷ []) ys m lt h = (cut_stamp a (get_or ys 0 16) (get_or ys 1 16) (get_or ys 2 0) (get_or ys 3 0) (get_or ys 4 0) (get_or ys 5 0) m h).one
stamp_front (a ∷ b ∷ []) ys m lt h = (cut_stamp a b (get_or ys 0 16) (get_or ys 1 0) (get_or ys 2 0) (get_or ys 3 0) (get_or ys 4 0) m h).two
stamp_front (a ∷ b ∷ c ∷ []) ys m lt h = (cut_stamp a b c (get_or ys 0 0) (get_or ys 1 0) (get_or ys 2 0) (get_or ys 3 0) m h).three
stamp_front (a ∷ b ∷ c ∷ d ∷ []) ys m lt h = (cut_stamp a b c d (get_or ys 0 0) (get_or ys 1 0) (get_or ys 2 0) m h).four
stamp_front (a ∷ b ∷ c ∷ d ∷ e ∷ []) ys m lt h = (cut_stamp a b c d e (get_or ys 0 0) (get_or ys 1 0) m h).five
stamp_front (a ∷ b ∷ c ∷ d ∷ e ∷ f ∷ []) ys m lt h = (cut_stamp a b c d e f (get_or ys 0 0) m h).six
stamp_front (a ∷ b ∷ c ∷ d ∷ e ∷ f ∷ g ∷ xs) ys m lt h = absurd (omega arith)

same_stamp : (xs ys : List ℕ) → 7 ≤ length xs → completed (xs ++ ys) ≡ completed xs
same_stamp xs ys le =
    let len : length (take 7 xs) ≡ 7 = omega (arith, length-take 7 xs) in
    let parts : xs ≡ take 7 xs ++ drop 7 xs = sym (take-append-drop 7 xs) in
    let long : xs ++ ys ≡ take 7 xs ++ (drop 7 xs ++ ys) = ap (λ (l : List ℕ). l ++ ys) parts ∙ append_assoc (take 7 xs) (drop 7 xs) ys in
    ap completed long ∙ whole_completed (take 7 xs) (drop 7 xs ++ ys) len ∙ sym (whole_completed (take 7 xs) (drop 7 xs) len) ∙ ap completed (sym parts)

time_by : (xs ys : List ℕ) (z : ℕ × List ℕ) (b : Bool) → ltb (length xs) 7 ≡ b → time_in (xs ++ ys) ≡ Ok z → Less Truncated (time_in xs) ys z
unfolding time_in
time_by xs ys z true t e =
    let a = bind_ok (ok_or (scts_in (completed (xs ++ ys))) BadTime) _ z e in
    let lt : length xs < 7 = ltb-true _ _ t in
    let f = stamp_front xs ys a.0 lt (ok_or_is _ a.0 a.1) in
    inr (rw (f.1, run_short Truncated 7 xs lt) refl)
time_by xs ys z false t e =
    let a = bind_ok (ok_or (scts_in (completed (xs ++ ys))) BadTime) _ z e in
    let same = same_stamp xs ys (ltb-false _ _ t) in
    let here : ok_or (scts_in (completed xs)) BadTime ≡ Ok a.0 = ap (λ (l : List ℕ). ok_or (scts_in l) BadTime) (sym same) ∙ a.1 in
    let cut : Less Truncated (run_in Truncated 7 xs >>= (λ stamp. Ok (a.0, stamp.1))) ys z = cuts_bind Truncated (run_in Truncated 7) (λ stamp. Ok (a.0, stamp.1)) (cuts_run Truncated 7) (λ s. cuts_pure Truncated a.0) xs ys z a.2 in
    rw here cut

pub time_cut : CutsShort Truncated time_in
time_cut xs ys z e = time_by xs ys z (ltb (length xs) 7) refl e

-- ---- user data

drop_front : (n : ℕ) (p q : List ℕ) → (r : List ℕ) × (drop n (p ++ q) ≡ drop n p ++ r)
drop_front zero p q = (q, refl)
drop_front (suc n) [] q = (drop (suc n) q, refl)
drop_front (suc n) (x ∷ p) q = drop_front n p q

low_bits : (fill v w : ℕ) → fill < 7 → (v + 256 * w) % 2 ^ fill ≡ 0 → v % 2 ^ fill ≡ 0
low_bits zero v w lt e = omega arith
low_bits (suc zero) v w lt e = omega arith
low_bits (suc (suc zero)) v w lt e = omega arith
low_bits (suc (suc (suc zero))) v w lt e = omega arith
low_bits (suc (suc (suc (suc zero)))) v w lt e = omega arith
low_bits (suc (suc (suc (suc (suc zero))))) v w lt e = omega arith
low_bits (suc (suc (suc (suc (suc (suc zero)))))) v w lt e = omega arith
low_bits (suc (suc (suc (suc (suc (suc (suc n))))))) v w lt e = absurd (omega arith)

zero_mod : (k : ℕ) → 0 % k ≡ 0
zero_mod k = omega arith

front_clear : (o r : List ℕ) (fill : ℕ) → fill < 7 → value_in 256 (o ++ r) % 2 ^ fill ≡ 0 → value_in 256 o % 2 ^ fill ≡ 0
front_clear [] r fill lt e = zero_mod (2 ^ fill)
front_clear (x ∷ o) r fill lt e =
    let split : x + 256 * value_in 256 (o ++ r) ≡ (x + 256 * value_in 256 o) + 256 * (256 ^ length o * value_in 256 r) = omega (arith, value-append 256 o r) in
    low_bits fill (x + 256 * value_in 256 o) (256 ^ length o * value_in 256 r) lt (ap (λ (v : ℕ). v % 2 ^ fill) (sym split) ∙ e)

-- what passed a test
record Tested (o : List ℕ) (fill count : ℕ) : Type 0 where
  clear : value_in 256 o % 2 ^ fill ≡ 0
  len : length o ≡ packed_len fill count

tested_by : (o : List ℕ) (fill count : ℕ) (a b c d : Bool) → eqb (value_in 256 o % 2 ^ fill) 0 ≡ a → ltb (length o) (packed_len fill count) ≡ b → ltb (packed_len fill count) (length o) ≡ c
    → (let r : Result (Unit {0}) UnpackError = cond (not a) (Err BitsOutside) (cond b (Err TooShort) (cond (c || d) (Err BitsOutside) (Ok tt))) in r ≡ Ok tt) → Tested o fill count
tested_by o fill count true false false d ha hb hc e = record { clear = eqb-true _ _ ha; len = omega (arith, ltb-false _ _ hb, ltb-false _ _ hc) }
tested_by o fill count true false true d ha hb hc e = absurd cc
tested_by o fill count true true c d ha hb hc e = absurd cc
tested_by o fill count false b c d ha hb hc e = absurd cc

abbrev TestedOrShort : List ℕ → ℕ → ℕ → Type 0
TestedOrShort o fill count = (tested o fill count ≡ Ok tt) ⊎ (tested o fill count ≡ Err TooShort)

front_tested_by : (o r : List ℕ) (fill count : ℕ) (b : Bool) → ltb (length o) (packed_len fill count) ≡ b → fill < 7 → tested (o ++ r) fill count ≡ Ok tt → TestedOrShort o fill count
front_tested_by o r fill count true t lt e =
    let w = tested_by (o ++ r) fill count _ _ _ _ refl refl refl e in
    let clear : eqb (value_in 256 o % 2 ^ fill) 0 ≡ true = eq-eqb _ _ (front_clear o r fill lt w.clear) in
    inr (rw (clear, t) refl)
front_tested_by o r fill count false t lt e =
    let w = tested_by (o ++ r) fill count _ _ _ _ refl refl refl e in
    let none : length r ≡ 0 = omega (arith, ltb-false _ _ t, w.len, length-append o r) in
    let same : o ++ r ≡ o = ap (λ (l : List ℕ). o ++ l) (no_items r none) ∙ append-nil o in
    inl (ap (λ (l : List ℕ). tested l fill count) (sym same) ∙ e)

front_tested : (o r : List ℕ) (fill count : ℕ) → fill < 7 → tested (o ++ r) fill count ≡ Ok tt → TestedOrShort o fill count
front_tested o r fill count lt e = front_tested_by o r fill count (ltb (length o) (packed_len fill count)) refl lt e

fill_small : (header n : ℕ) → fill_behind header n < 7
fill_small header n = by (leb (header_septets header) n) where
  by : (b : Bool) → cond b (7 * header_septets header - 8 * header) 0 < 7
  by true = omega arith
  by false = omega arith

passing_of : (o : List ℕ) (fill count : ℕ) → TestedOrShort o fill count → Passing Truncated (of_test (tested o fill count))
passing_of o fill count h = elim h [
  | inl p ↦ inl (ap of_test p)
  | inr q ↦ inr (ap of_test q)
]

content_passing : (coding : Coding) (header n : ℕ) (p q : List ℕ) (u : Unit {0}) → content_test coding header n (p ++ q) ≡ Ok u → Passing Truncated (content_test coding header n p)
content_passing Septets header n p q u e =
    let d = drop_front header p q in
    let fill = fill_behind header n in
    let m = n - header_septets header in
    let whole : tested (drop header p ++ d.0) fill m ≡ Ok tt = ap (λ (l : List ℕ). tested l fill m) (sym d.1) ∙ test_is _ u e in
    passing_of (drop header p) fill m (front_tested (drop header p) d.0 fill m (fill_small header n) whole)
content_passing Octets header n p q u e = inl refl
content_passing Ucs2 header n p q u e = inl refl
content_passing Compressed header n p q u e = inl refl

empty_by : (m : ℕ) (b : Bool) → ltb 0 (packed_len 0 m) ≡ b → TestedOrShort [] 0 m
empty_by m true t = inr (rw t refl)
empty_by m false t =
    let none : m ≡ 0 = omega (arith, ltb-false _ _ t) in
    inl (ap (λ (k : ℕ). tested [] 0 k) none)

empty_content : (coding : Coding) (n : ℕ) → Passing Truncated (content_test coding 0 n [])
empty_content Septets n =
    let fill : fill_behind 0 n ≡ 0 = rw (le-leb 0 n (omega arith)) refl in
    subst (λ (k : ℕ). Passing Truncated (of_test (tested [] k (n - 0)))) (sym fill) (passing_of [] 0 (n - 0) (empty_by (n - 0) (ltb 0 (packed_len 0 (n - 0))) refl))
empty_content Octets n = inl refl
empty_content Ucs2 n = inl refl
empty_content Compressed n = inl refl

text_passing : (coding : Coding) (with_header : Bool) (n : ℕ) (p q : List ℕ) (u : Unit {0}) → text_test coding with_header n (p ++ q) ≡ Ok u → Passing Truncated (text_test coding with_header n p)
unfolding text_test
text_passing coding false n p q u e = content_passing coding 0 n p q u e
text_passing coding true n [] q u e = empty_content coding n
text_passing coding true n (h ∷ p) q u e =
    let a = bind_ok (only_if (ltb h (octets_of coding n)) BadHeader) _ u e in
    let fits : ltb h (octets_of coding n) ≡ true = passes _ BadHeader a.0 a.1 in
    rw fits (content_passing coding (h + 1) n (h ∷ p) q u a.2)

take_front : (k : ℕ) (xs ys : List ℕ) → (r : List ℕ) × (take k (xs ++ ys) ≡ take k xs ++ r)
take_front zero xs ys = ([], refl)
take_front (suc k) [] ys = (take (suc k) ys, refl)
take_front (suc k) (x ∷ xs) ys = let t = take_front k xs ys in (t.0, ap (λ (l : List ℕ). x ∷ l) t.1)

text_front : (coding : Coding) (with_header : Bool) (n k : ℕ) (xs ys : List ℕ) (u : Unit {0}) → text_test coding with_header n (take k (xs ++ ys)) ≡ Ok u → Passing Truncated (text_test coding with_header n (take k xs))
text_front coding with_header n k xs ys u e =
    let t = take_front k xs ys in
    text_passing coding with_header n (take k xs) t.0 u (ap (text_test coding with_header n) (sym t.1) ∙ e)

pub text_cut : (coding : Coding) (with_header : Bool) (n : ℕ) → CutsShort Truncated (text_in coding with_header n)
unfolding text_in
text_cut coding with_header n =
    front_cut Truncated (octets_of coding n) (text_test coding with_header n) (run_in Truncated (octets_of coding n)) (cuts_run Truncated (octets_of coding n)) (run_short Truncated (octets_of coding n))
    (λ xs ys lt u e. text_front coding with_header n (octets_of coding n) xs ys u e)

pub data_cut : (coding : Coding) (with_header : Bool) → CutsShort Truncated (user_data_in coding with_header)
unfolding user_data_in
data_cut coding with_header =
    cuts_bind Truncated (octet_in Truncated) _ (cuts_octet Truncated) (λ n. cuts_test Truncated _ UserDataTooLong _ (cuts_test Truncated _ BadHeader _
    (cuts_bind Truncated (text_in coding with_header n) _ (text_cut coding with_header n) (λ text. cuts_pure Truncated _))))

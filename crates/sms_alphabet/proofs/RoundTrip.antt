-- What was packed is unpacked again, and what is unpacked was packed so.
use Rattle.std.specs.Result.{IfOk}
use Rattle.std.proofs.Common.{◌≡◌, ℕ, zero, suc, ◌+◌, ◌*◌, ◌/◌, ◌%◌, ◌^◌, ◌<◌, ◌≤◌, Bool, true, false, not, ◌||◌, cond, eqb, ltb, List, [], ◌∷◌, length, All, get_or, Result, Ok, Err, refl, sym, ap, subst, ◌∙◌, arith}
use Rattle.std.proofs.Math.Nat.{pow-succ', pow-zero, mul-mod_right, mul-div_cancel_left}
use Rattle.std.proofs.lemmas.Bool.{ltb-true, ltb-false, eqb-true, lt-ltb, le-ltb, eq-eqb}
use Rattle.std.proofs.lemmas.Nat.{pow_pos}
use Rattle.sms_base.specs.Reading.{AreOctets}
use Rattle.sms_alphabet.specs.Packing.{value_in, digits_in, packed_len, AreSeptets, IsPacking, septets_in, unpacked, and_then, AnswersUnpacking}
use Rattle.sms_alphabet.specs.declared.unpacking.UnpackError.{UnpackError}
use Rattle.sms_alphabet.specs.declared.unpacking.UnpackError.TheVariants.{TooShort, SpareBits}

all_tail : (base x : ℕ) (xs : List ℕ) → All (λ d. d < base) (x ∷ xs) → All (λ d. d < base) xs
all_tail base x xs h = λ k d lt. h (suc k) d (omega arith)

all_head : (base x : ℕ) (xs : List ℕ) → All (λ d. d < base) (x ∷ xs) → x < base
all_head base x xs h = h 0 0 (omega arith)

pub value-below : (s : List ℕ) → AreSeptets s → value_in 128 s < 128 ^ length s
value-below [] h = omega arith
value-below (x ∷ xs) h = omega (arith, all_head 128 x xs h, value-below xs (all_tail 128 x xs h), pow-succ' 128 (length xs))

pub digits_in-value : (s : List ℕ) → AreSeptets s → digits_in 128 (length s) (value_in 128 s) ≡ s
digits_in-value [] h = refl
digits_in-value (x ∷ xs) h =
    let small = all_head 128 x xs h in
    let low : (x + 128 * value_in 128 xs) % 128 ≡ x = omega (arith, small) in
    let high : (x + 128 * value_in 128 xs) / 128 ≡ value_in 128 xs = omega (arith, small) in
    ap (λ (d : ℕ). d ∷ digits_in 128 (length xs) ((x + 128 * value_in 128 xs) / 128)) low ∙ ap (λ (v : ℕ). x ∷ digits_in 128 (length xs) v) high ∙ ap (λ (ds : List ℕ). x ∷ ds) (digits_in-value xs (all_tail 128 x xs h))

pub value_in-digits : (n v : ℕ) → v < 128 ^ n → value_in 128 (digits_in 128 n v) ≡ v
value_in-digits zero v lt = omega (arith, pow-zero 128)
value_in-digits (suc n) v lt =
    let below : v / 128 < 128 ^ n = omega (arith, pow-succ' 128 n) in
    omega (arith, value_in-digits n (v / 128) below)

pub length-digits : (base n v : ℕ) → length (digits_in base n v) ≡ n
length-digits base zero v = refl
length-digits base (suc n) v = ap suc (length-digits base n (v / base))

below : (n v : ℕ) → AreSeptets (digits_in 128 n (v / 128)) → (k d : ℕ) → k < suc (length (digits_in 128 n (v / 128))) → get_or (digits_in 128 (suc n) v) k d < 128
below n v h zero d lt = omega arith
below n v h (suc k) d lt = h k d (omega arith)

pub digits-below : (n v : ℕ) → AreSeptets (digits_in 128 n v)
digits-below zero v = λ k d lt. absurd (omega arith)
digits-below (suc n) v = λ k d lt. below n v (digits-below n (v / 128)) k d lt

pub packed_is_read : (s o : List ℕ) (fill : ℕ) → AreSeptets s → IsPacking s fill o → unpacked o fill (length s) ≡ Ok s
packed_is_read s o fill small h =
    let power = pow_pos fill in
    let w = value_in 128 s in
    let clear : value_in 256 o % 2 ^ fill ≡ 0 = ap (λ (v : ℕ). v % 2 ^ fill) h.value_is ∙ mul-mod_right (2 ^ fill) w in
    let shifted : value_in 256 o / 2 ^ fill ≡ w = ap (λ (v : ℕ). v / 2 ^ fill) h.value_is ∙ mul-div_cancel_left w power in
    let len = h.length_is in
    rw (eq-eqb _ _ clear, le-ltb (length o) (packed_len fill (length s)) (omega arith), le-ltb (packed_len fill (length s)) (length o) (omega arith), shifted, lt-ltb w (128 ^ length s) (value-below s small), digits_in-value s small) refl

-- the test's answers, one by one
passes : (a b c : Bool) (s xs : List ℕ) → and_then (cond (not a) (Err SpareBits) (cond b (Err TooShort) (cond c (Err SpareBits) (Ok tt)))) s ≡ Ok xs → (a ≡ true) × (b ≡ false) × (c ≡ false) × (s ≡ xs)
passes true false false s xs e = (refl, refl, refl, cc)
passes true false true s xs e = absurd cc
passes true true c s xs e = absurd cc
passes false b c s xs e = absurd cc

neither : (a b : Bool) → a || not b ≡ false → (a ≡ false) × (b ≡ true)
neither false true e = (refl, refl)
neither false false e = absurd cc
neither true b e = absurd cc

pub read_was_packed : (o s : List ℕ) (fill n : ℕ) → unpacked o fill n ≡ Ok s → IsPacking s fill o × (length s ≡ n) × AreSeptets s
read_was_packed o s fill n e =
    let v = value_in 256 o in
    let p = passes (eqb (v % 2 ^ fill) 0) (ltb (length o) (packed_len fill n)) (ltb (packed_len fill n) (length o) || not (ltb (v / 2 ^ fill) (128 ^ n))) (septets_in o fill n) s e in
    let q = neither (ltb (packed_len fill n) (length o)) (ltb (v / 2 ^ fill) (128 ^ n)) p.2 in
    let clear : v % 2 ^ fill ≡ 0 = eqb-true _ _ p.0 in
    let long : packed_len fill n ≤ length o = ltb-false _ _ p.1 in
    let short : length o ≤ packed_len fill n = ltb-false _ _ q.0 in
    let under : v / 2 ^ fill < 128 ^ n = ltb-true _ _ q.1 in
    let whole : v ≡ 2 ^ fill * value_in 128 (septets_in o fill n) = rw (value_in-digits n (v / 2 ^ fill) under) (omega (arith, clear)) in
    let len : length (septets_in o fill n) ≡ n = length-digits 128 n (v / 2 ^ fill) in
    let made : IsPacking (septets_in o fill n) fill o × (length (septets_in o fill n) ≡ n) × AreSeptets (septets_in o fill n) =
    (record { length_is = omega (arith, len); value_is = whole }, len, digits-below n (v / 2 ^ fill)) in
    subst (λ (xs : List ℕ). IsPacking xs fill o × (length xs ≡ n) × AreSeptets xs) p.3 made

-- numbers of one value and length have the same digits
same_digits : (xs ys : List ℕ) → AreOctets xs → AreOctets ys → length xs ≡ length ys → value_in 256 xs ≡ value_in 256 ys → xs ≡ ys
same_digits [] [] a b l e = refl
same_digits [] (y ∷ ys) a b l e = absurd (omega arith)
same_digits (x ∷ xs) [] a b l e = absurd (omega arith)
same_digits (x ∷ xs) (y ∷ ys) a b l e =
    let small_x : x < 256 = a.0 in
    let small_y : y < 256 = b.0 in
    let first : x ≡ y = omega arith in
    let later : value_in 256 xs ≡ value_in 256 ys = omega arith in
    ap (λ (d : ℕ). d ∷ xs) first ∙ ap (λ (ds : List ℕ). y ∷ ds) (same_digits xs ys a.1 b.1 (omega arith) later)

pub one_packing : (s o p : List ℕ) (fill : ℕ) → AreOctets o → AreOctets p → IsPacking s fill o → IsPacking s fill p → o ≡ p
one_packing s o p fill a b x y = same_digits o p a b (x.length_is ∙ sym y.length_is) (x.value_is ∙ sym y.value_is)

pub found : (octets : List ℕ) (fill count : ℕ) (result : Result (List ℕ) UnpackError) → AnswersUnpacking result (unpacked octets fill count) → IfOk result (λ septets. IsPacking septets fill octets × (length septets ≡ count) × AreSeptets septets)
found octets fill count (Ok septets) a = read_was_packed octets septets fill count a
found octets fill count (Err e) a = tt

pub only : (octets septets : List ℕ) (fill count : ℕ) (result : Result (List ℕ) UnpackError) → AnswersUnpacking result (unpacked octets fill count) → AreSeptets septets → IsPacking septets fill octets → length septets ≡ count → AnswersUnpacking result (Ok septets)
only octets septets fill count result a s p n = subst (λ (w : Result (List ℕ) UnpackError). AnswersUnpacking result w) (ap (λ (k : ℕ). unpacked octets fill k) (sym n) ∙ packed_is_read septets octets fill s p) a

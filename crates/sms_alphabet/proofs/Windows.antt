-- Eight septets in a window of eight octets.
use Rattle.std.proofs.Common.{◌≡◌, ℕ, zero, suc, ◌+◌, ◌-◌, ◌*◌, ◌/◌, ◌%◌, ◌^◌, ◌<◌, ◌≤◌, List, [], ◌∷◌, ◌++◌, length, take, drop, bit_or, refl, sym, ap, ◌∙◌, arith}
use Rattle.std.proofs.Math.Nat.{mul_assoc, mul_comm, mul-add, mul-le-mul_right, pow-succ', pow-zero, div-div-eq-div-mul, add-mul-mod_self_left, mod-eq_of_lt, pow-le-pow_right}
use Rattle.std.proofs.lemmas.Nat.{pow-add, field_of, shr_below, or_shifted, or_comm, shl_whole}
use Rattle.std.proofs.lemmas.List.{length-append, length-drop}
use Rattle.std.specs.Int.{w64, from_le_bytes, to_le_bytes}
use Rattle.sms_base.proofs.OctetLaws.{IsBytes}
use Rattle.sms_alphabet.specs.Packing.{value_in, digits_in, septets_in}
use Rattle.sms_alphabet.proofs.Value.{value-append}
use Rattle.sms_alphabet.proofs.Held.{Packs, octet_power, septet_power}
use Rattle.sms_alphabet.proofs.Places.{value_in-from_bit}

-- the first eight octets are the number below 2 ^ 64
pub eight_are : (a b c d e f g h : ℕ) (rest : List ℕ) → a < 256 → b < 256 → c < 256 → d < 256 → e < 256 → f < 256 → g < 256 → h < 256
    → from_le_bytes w64 (a ∷ b ∷ c ∷ d ∷ e ∷ f ∷ g ∷ h ∷ []) ≡ value_in 256 (a ∷ b ∷ c ∷ d ∷ e ∷ f ∷ g ∷ h ∷ rest) % 2 ^ 64
eight_are a b c d e f g h rest la lb lc ld le lf lg lh = omega arith

-- fewer than eight octets have a number below 2 ^ 56
pub below_seven : (n x : ℕ) → n < 8 → x < 256 ^ n → x < 2 ^ 56
below_seven n x few lt =
    let most : 256 ^ n ≤ 256 ^ 7 = pow-le-pow_right {n = 256} (omega arith) {i = n} {j = 7} (omega arith) in
    omega (arith, most)

pub fits_window : (n x : ℕ) → n < 8 → x < 256 ^ n → x % 2 ^ 64 ≡ x
fits_window n x few lt = let b = below_seven n x few lt in mod-eq_of_lt (omega (arith, b))

-- the part of a number above a bit, below 56 bits more, lies in the window
pub window_bits : (x s : ℕ) → s < 8 → x % 2 ^ 64 / 2 ^ s % 2 ^ 56 ≡ x / 2 ^ s % 2 ^ 56
window_bits x s lt =
    let m = 2 ^ (56 + s) in
    let r = x % 2 ^ 64 in
    let q = x / 2 ^ 64 in
    let whole : x ≡ r + 2 ^ 64 * q = omega arith in
    let sixty : 64 ≡ 56 + s + (8 - s) = omega arith in
    let power : 2 ^ 64 ≡ m * 2 ^ (8 - s) = ap (λ (k : ℕ). 2 ^ k) sixty ∙ pow-add 2 (56 + s) (8 - s) in
    let far : 2 ^ 64 * q ≡ m * (2 ^ (8 - s) * q) = ap (λ (p : ℕ). p * q) power ∙ mul_assoc m _ _ in
    let same : x % m ≡ r % m = ap (λ (v : ℕ). v % m) (whole ∙ ap (λ (v : ℕ). r + v) far) ∙ add-mul-mod_self_left r m (2 ^ (8 - s) * q) in
    sym (field_of r 56 s) ∙ ap (λ (v : ℕ). v / 2 ^ s) (sym same) ∙ field_of x 56 s

-- the digits of the window are those of the number
pub eight_digits : (w u : ℕ) → w % 2 ^ 56 ≡ u % 2 ^ 56
    → (w % 128) ∷ (w / 2 ^ 7 % 128) ∷ (w / 2 ^ 14 % 128) ∷ (w / 2 ^ 21 % 128) ∷ (w / 2 ^ 28 % 128) ∷ (w / 2 ^ 35 % 128) ∷ (w / 2 ^ 42 % 128) ∷ (w / 2 ^ 49 % 128) ∷ [] ≡ digits_in 128 8 u
eight_digits w u e =
    let e0 : w % 128 ≡ u % 128 = omega arith in
    let e1 : w / 2 ^ 7 % 128 ≡ u / 128 % 128 = omega arith in
    let e2 : w / 2 ^ 14 % 128 ≡ u / 128 / 128 % 128 = omega arith in
    let e3 : w / 2 ^ 21 % 128 ≡ u / 128 / 128 / 128 % 128 = omega arith in
    let e4 : w / 2 ^ 28 % 128 ≡ u / 128 / 128 / 128 / 128 % 128 = omega arith in
    let e5 : w / 2 ^ 35 % 128 ≡ u / 128 / 128 / 128 / 128 / 128 % 128 = omega arith in
    let e6 : w / 2 ^ 42 % 128 ≡ u / 128 / 128 / 128 / 128 / 128 / 128 % 128 = omega arith in
    let e7 : w / 2 ^ 49 % 128 ≡ u / 128 / 128 / 128 / 128 / 128 / 128 / 128 % 128 = omega arith in
    rw (e0, e1, e2, e3, e4, e5, e6, e7) refl

-- the number from a bit on, through the window at the bit's octet
pub window_from_bit : (xs : List ℕ) (bit : ℕ) → IsBytes xs → (value_in 256 (drop (bit / 8) xs) % 2 ^ 64 / 2 ^ (bit % 8)) % 2 ^ 56 ≡ (value_in 256 xs / 2 ^ bit) % 2 ^ 56
window_from_bit xs bit fits = window_bits (value_in 256 (drop (bit / 8) xs)) (bit % 8) (omega arith) ∙ ap (λ (v : ℕ). v % 2 ^ 56) (sym (value_in-from_bit xs bit fits))

digits-append : (n m v : ℕ) → digits_in 128 (n + m) v ≡ digits_in 128 n v ++ digits_in 128 m (v / 128 ^ n)
digits-append zero m v =
    let one : v ≡ v / 128 ^ 0 = omega arith ∙ ap (λ (p : ℕ). v / p) (sym (pow-zero 128)) in
    let none : 0 + m ≡ m = omega arith in
    ap (λ (k : ℕ). digits_in 128 k v) none ∙ ap (λ (x : ℕ). digits_in 128 m x) one
digits-append (suc n) m v =
    let same : v / 128 / 128 ^ n ≡ v / 128 ^ suc n = div-div-eq-div-mul v 128 (128 ^ n) ∙ ap (λ (p : ℕ). v / p) (sym (pow-succ' 128 n)) in
    let more : suc n + m ≡ suc (n + m) = omega arith in
    ap (λ (k : ℕ). digits_in 128 k v) more ∙ ap (λ (ds : List ℕ). v % 128 ∷ ds) (digits-append n m (v / 128)) ∙ ap (λ (q : ℕ). v % 128 ∷ (digits_in 128 n (v / 128) ++ digits_in 128 m q)) same

-- eight septets more
pub eight_more : (xs : List ℕ) (fill i : ℕ) → septets_in xs fill (8 * i) ++ digits_in 128 8 (value_in 256 xs / 2 ^ (fill + 56 * i)) ≡ septets_in xs fill (8 * (i + 1))
eight_more xs fill i =
    let v = value_in 256 xs in
    let bits : fill + 56 * i ≡ fill + 7 * (8 * i) = omega arith in
    let place : v / 2 ^ (fill + 56 * i) ≡ v / 2 ^ fill / 128 ^ (8 * i) =
    ap (λ (k : ℕ). v / 2 ^ k) bits ∙ ap (λ (p : ℕ). v / p) (pow-add 2 fill (7 * (8 * i)) ∙ ap (λ (p : ℕ). 2 ^ fill * p) (sym (septet_power (8 * i)))) ∙ sym (div-div-eq-div-mul v (2 ^ fill) (128 ^ (8 * i))) in
    let next : 8 * i + 8 ≡ 8 * (i + 1) = omega arith in
    ap (λ (x : ℕ). septets_in xs fill (8 * i) ++ digits_in 128 8 x) place ∙ sym (digits-append (8 * i) 8 (v / 2 ^ fill)) ∙ ap (λ (k : ℕ). septets_in xs fill k) next

-- ---- eight septets are seven octets

pub seven_are : (n : ℕ) → take 7 (to_le_bytes w64 n) ≡ digits_in 256 7 n
seven_are n =
    let e2 : n / 65536 % 256 ≡ n / 256 / 256 % 256 = omega arith in
    let e3 : n / 16777216 % 256 ≡ n / 256 / 256 / 256 % 256 = omega arith in
    let e4 : n / 4294967296 % 256 ≡ n / 256 / 256 / 256 / 256 % 256 = omega arith in
    let e5 : n / 1099511627776 % 256 ≡ n / 256 / 256 / 256 / 256 / 256 % 256 = omega arith in
    let e6 : n / 281474976710656 % 256 ≡ n / 256 / 256 / 256 / 256 / 256 / 256 % 256 = omega arith in
    rw (e2, e3, e4, e5, e6) refl

seven_value : (w : ℕ) → value_in 256 (digits_in 256 7 w) ≡ w % 2 ^ 56
seven_value w = omega arith

pub eights : (out front block : List ℕ) (held fill : ℕ) → length block ≡ 8 → value_in 128 block < 2 ^ 56 → Packs out held fill fill front
    → Packs (out ++ digits_in 256 7 (value_in 128 block * 2 ^ fill + held)) ((value_in 128 block * 2 ^ fill + held) / 2 ^ 56) fill fill (front ++ block)
eights out front block held fill eight lt h =
    let b = 2 ^ fill in
    let e = 2 ^ (8 * length out) in
    let v = value_in 128 block in
    let wide = v * b + held in
    let seven = digits_in 256 7 wide in
    let wider : 2 ^ (fill + 56) ≡ b * 2 ^ 56 = pow-add 2 fill 56 in
    let most : v * b ≤ (2 ^ 56 - 1) * b = mul-le-mul_right b (omega (arith, lt)) in
    let below : wide < 2 ^ (fill + 56) = omega (arith, wider, most, h.low) in
    let len : length (out ++ seven) ≡ length out + 7 = length-append out seven in
    let more : length (front ++ block) ≡ length front + 8 = omega (arith, length-append front block, eight) in
    let power : 2 ^ (8 * length (out ++ seven)) ≡ e * 2 ^ 56 = ap (λ (k : ℕ). 2 ^ k) (let k : 8 * length (out ++ seven) ≡ 8 * length out + 56 = omega (arith, len) in k) ∙ pow-add 2 (8 * length out) 56 in
    let one : value_in 256 (out ++ seven) ≡ value_in 256 out + e * (wide % 2 ^ 56) =
    value-append 256 out seven ∙ ap (λ (p : ℕ). value_in 256 out + p * value_in 256 seven) (octet_power (length out)) ∙ ap (λ (n : ℕ). value_in 256 out + e * n) (seven_value wide) in
    let two : 2 ^ (8 * length (out ++ seven)) * (wide / 2 ^ 56) ≡ e * (2 ^ 56 * (wide / 2 ^ 56)) = ap (λ (p : ℕ). p * (wide / 2 ^ 56)) power ∙ mul_assoc e (2 ^ 56) (wide / 2 ^ 56) in
    let three : e * (wide % 2 ^ 56) + e * (2 ^ 56 * (wide / 2 ^ 56)) ≡ e * wide = sym (mul-add e (wide % 2 ^ 56) (2 ^ 56 * (wide / 2 ^ 56))) ∙ ap (λ (n : ℕ). e * n) (omega arith) in
    let four : e * wide ≡ e * (v * b) + e * held = mul-add e (v * b) held in
    let five : e * (v * b) ≡ e * b * v = ap (λ (p : ℕ). e * p) (mul_comm v b) ∙ sym (mul_assoc e b v) in
    let places : e * b ≡ b * 128 ^ length front = sym (pow-add 2 (8 * length out) fill) ∙ ap (λ (k : ℕ). 2 ^ k) h.room ∙ pow-add 2 fill (7 * length front) ∙ ap (λ (p : ℕ). b * p) (sym (septet_power (length front))) in
    let six : b * value_in 128 (front ++ block) ≡ b * value_in 128 front + b * 128 ^ length front * v =
    ap (λ (n : ℕ). b * n) (value-append 128 front block) ∙ mul-add b _ _ ∙ ap (λ (p : ℕ). b * value_in 128 front + p) (sym (mul_assoc b (128 ^ length front) v)) in
    let seventh : e * b * v ≡ b * 128 ^ length front * v = ap (λ (p : ℕ). p * v) places in
    record {
      low = shr_below wide fill 56 below;
      room = omega (arith, len, more, h.room);
      value = omega (arith, one, two, three, four, five, six, seventh, h.value);
    }

-- what the code holds with eight septets more
pub eight_held : (held fill eight : ℕ) → eight < 2 ^ 56 → fill < 7 → held < 2 ^ fill → bit_or held ((eight * 2 ^ fill) % 2 ^ 64) ≡ eight * 2 ^ fill + held
eight_held held fill eight lt few low =
    let whole : (eight * 2 ^ fill) % 2 ^ 64 ≡ eight * 2 ^ fill = shl_whole eight 56 fill 64 lt (omega arith) in
    rw whole (or_comm held (eight * 2 ^ fill) ∙ or_shifted eight fill held low)

abbrev nothing : List ℕ
nothing = []

take_none : (m : ℕ) → take m nothing ≡ nothing
take_none zero = refl
take_none (suc m) = refl

take_both : (n m : ℕ) (xs : List ℕ) → take (n + m) xs ≡ take n xs ++ take m (drop n xs)
take_both zero m xs = let none : 0 + m ≡ m = omega arith in ap (λ (k : ℕ). take k xs) none
take_both (suc n) m [] = let more : suc n + m ≡ suc (n + m) = omega arith in ap (λ (k : ℕ). take k nothing) more ∙ sym (take_none m)
take_both (suc n) m (x ∷ xs) = let more : suc n + m ≡ suc (n + m) = omega arith in ap (λ (k : ℕ). take k (x ∷ xs)) more ∙ ap (λ (l : List ℕ). x ∷ l) (take_both n m xs)

length_eight : (n : ℕ) (xs : List ℕ) → n ≤ length xs → length (take n xs) ≡ n
length_eight zero xs h = refl
length_eight (suc n) [] h = absurd (omega arith)
length_eight (suc n) (x ∷ xs) h = ap suc (length_eight n xs (omega arith))

pub eight_turn : (out : List ℕ) (held fill : ℕ) (xs : List ℕ) (i eight : ℕ) (out' : List ℕ) (held' wide : ℕ) → i < length xs / 8 → eight ≡ value_in 128 (take 8 (drop (8 * i) xs)) → eight < 2 ^ 56 → fill < 7
    → Packs out held fill fill (take (8 * i) xs) → wide ≡ bit_or held ((eight * 2 ^ fill) % 2 ^ 64) → out' ≡ out ++ digits_in 256 7 wide → held' ≡ wide / 2 ^ 56
    → Packs out' held' fill fill (take (8 * (i + 1)) xs)
eight_turn out held fill xs i eight out' held' wide inside is lt few h e1 e2 e3 =
    let block = take 8 (drop (8 * i) xs) in
    let front = take (8 * i) xs in
    let next : 8 * (i + 1) ≡ 8 * i + 8 = omega arith in
    let whole : take (8 * (i + 1)) xs ≡ front ++ block = ap (λ (k : ℕ). take k xs) next ∙ take_both (8 * i) 8 xs in
    let wide-is : wide ≡ value_in 128 block * 2 ^ fill + held = e1 ∙ eight_held held fill eight lt few h.low ∙ ap (λ (v : ℕ). v * 2 ^ fill + held) is in
    let long : length block ≡ 8 = length_eight 8 (drop (8 * i) xs) (omega (arith, length-drop (8 * i) xs)) in
    rw (whole, e2, e3, wide-is) (eights out front block held fill long (let l : value_in 128 block < 2 ^ 56 = rw (← is) lt in l) h)

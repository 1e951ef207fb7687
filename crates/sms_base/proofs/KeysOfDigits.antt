-- Keys of digits are equal only where the digits are, and spell them.
use Rattle.std.proofs.Common.{◌≡◌, ℕ, zero, suc, ◌+◌, ◌-◌, ◌*◌, ◌/◌, ◌%◌, ◌<◌, ◌≤◌, arith, List, [], ◌∷◌, ◌++◌, length, Bool, true, false, cond, refl, sym, ap, ◌∙◌, subst, Option, Some, None}
use Rattle.std.specs.Prelude.{is_some, nat_lt, nat_le, ◌&&◌, ◌==◌}
use Rattle.std.specs.Str.{bytes_eq}
use Rattle.std.proofs.lemmas.Bool.{ltb-true, leb-true, eqb-true, cond-true, cond-false, lt-ltb, le-ltb, ne_eqb}
use Rattle.std.proofs.Common.{eq-eqb}
use Rattle.std.proofs.lemmas.Slice.Eq.{bytes_eq-Decides}
use Rattle.sms_base.specs.DigitsKey.{digit_code, digits_from, digits_key, last_first, semi_octet_code, spelled, turned_onto}
use Rattle.sms_base.specs.Msisdn.{AllDigits}
use Rattle.sms_base.specs.SemiOctet.{digit_of, is_digit}
use Rattle.sms_base.proofs.Bools.{same_bool}

-- ---- codes

abbrev IsSmall : Option ℕ → Type 0
IsSmall s = semi_octet_code s ≤ 15

by_test : {A : Type 0} (P : A → Type 0) (b : Bool) (x y : A) → (b ≡ true → P x) → P y → P (cond b x y)
by_test P true x y f g = f refl
by_test P false x y f g = g

second_true : (a b : Bool) → (a && b) ≡ true → b ≡ true
second_true true b e = e
second_true false b e = absurd cc

pub code_small : (c : ℕ) → digit_code c ≤ 15
code_small c =
    by_test IsSmall (nat_le 48 c && nat_lt c 58) (Some (c - 48)) _ (λ e. let l = ltb-true c 58 (second_true (nat_le 48 c) (nat_lt c 58) e) in omega (arith, l))
    (by_test IsSmall (c == 42) (Some 10) _ (λ e. omega arith)
    (by_test IsSmall (c == 35) (Some 11) _ (λ e. omega arith)
    (by_test IsSmall (nat_le 97 c && nat_lt c 100) (Some (c - 85)) None (λ e. let l = ltb-true c 100 (second_true (nat_le 97 c) (nat_lt c 100) e) in omega (arith, l)) (omega arith))))

-- ---- room: a digit takes four bits

abbrev pub room : ℕ → ℕ
room zero = 1
room (suc k) = 16 * room k

room_grows : (j k m : ℕ) → j + k ≡ m → room k ≤ room m
room_grows zero k m e = let q : k ≡ m = omega (arith, e) in subst (λ n. room k ≤ room n) q (omega arith)
room_grows (suc j) k zero e = absurd (omega (arith, e))
room_grows (suc j) k (suc m) e = let r = room_grows j k m (omega (arith, e)) in omega (arith, r)

pub room_of_twenty : (k : ℕ) → k ≤ 20 → room k ≤ 1208925819614629174706176
room_of_twenty k l =
    let q : 20 - k + k ≡ 20 = omega (arith, l) in
    let twenty : room 20 ≡ 1208925819614629174706176 = refl in
    let r : room k ≤ room 20 = room_grows (20 - k) k 20 q in
    omega (arith, r, twenty)

pub room_of_nineteen : (k : ℕ) → k < 20 → 16 * room k ≤ 1208925819614629174706176
room_of_nineteen k l = room_of_twenty (suc k) l

-- ---- digits are equal where their keys are

-- the digit that a code is of
abbrev Reads : ℕ → Option ℕ → Type 0
Reads c s = is_some s ≡ true → (digit_of (semi_octet_code s - 1) ≡ c) × (1 ≤ semi_octet_code s)

digit_at : (s c : ℕ) → s < 10 → s + 48 ≡ c → digit_of s ≡ c
digit_at s c l e = cond-true (nat_lt s 10) (s + 48) _ (lt-ltb s 10 l) ∙ e

letter_at : (s c : ℕ) → 11 < s → s + 85 ≡ c → digit_of s ≡ c
letter_at s c l e =
    cond-false (nat_lt s 10) (s + 48) _ (le-ltb s 10 (omega (arith, l)))
    ∙ cond-false (s == 10) 42 _ (ne_eqb s 10 (λ q. absurd (omega (arith, q, l))))
    ∙ cond-false (s == 11) 35 _ (ne_eqb s 11 (λ q. absurd (omega (arith, q, l))))
    ∙ e

first_true : (a b : Bool) → (a && b) ≡ true → a ≡ true
first_true true b e = refl
first_true false b e = absurd cc

back_again : (c : ℕ) → is_digit c ≡ true → (digit_of (digit_code c - 1) ≡ c) × (1 ≤ digit_code c)
back_again c =
    by_test (Reads c) (nat_le 48 c && nat_lt c 58) (Some (c - 48)) _
    (λ e some. let l = ltb-true c 58 (second_true (nat_le 48 c) (nat_lt c 58) e) in let m = leb-true 48 c (first_true (nat_le 48 c) (nat_lt c 58) e) in
    (digit_at (c - 48 + 1 - 1) c (omega (arith, l, m)) (omega (arith, l, m)), omega arith))
    (by_test (Reads c) (c == 42) (Some 10) _ (λ e some. (sym (eqb-true c 42 e), omega arith))
    (by_test (Reads c) (c == 35) (Some 11) _ (λ e some. (sym (eqb-true c 35 e), omega arith))
    (by_test (Reads c) (nat_le 97 c && nat_lt c 100) (Some (c - 85)) None
    (λ e some. let l = ltb-true c 100 (second_true (nat_le 97 c) (nat_lt c 100) e) in let m = leb-true 97 c (first_true (nat_le 97 c) (nat_lt c 100) e) in
    (letter_at (c - 85 + 1 - 1) c (omega (arith, l, m)) (omega (arith, l, m)), omega arith))
    (λ some. absurd cc))))

-- the last digit first
abbrev little : List ℕ → ℕ
little [] = 0
little (c ∷ cs) = 16 * little cs + digit_code c

abbrev onto : List ℕ → List ℕ → List ℕ
onto [] done = done
onto (x ∷ xs) done = onto xs (x ∷ done)

from_little : (xs done : List ℕ) → digits_from (little done) xs ≡ little (onto xs done)
from_little [] done = refl
from_little (x ∷ xs) done = from_little xs (x ∷ done)

onto_twice : (xs done : List ℕ) → onto (onto xs done) [] ≡ onto done xs
onto_twice [] done = refl
onto_twice (x ∷ xs) done = onto_twice xs (x ∷ done)

all_onto : (xs done : List ℕ) → AllDigits xs → AllDigits done → AllDigits (onto xs done)
all_onto [] done h k = k
all_onto (x ∷ xs) done h k = all_onto xs (x ∷ done) h.1 (h.0, k)

little_equal : (xs ys : List ℕ) → AllDigits xs → AllDigits ys → little xs ≡ little ys → xs ≡ ys
little_equal [] [] h k e = refl
little_equal [] (y ∷ ys) h k e = let b = back_again y k.0 in absurd (omega (arith, b.1, e))
little_equal (x ∷ xs) [] h k e = let a = back_again x h.0 in absurd (omega (arith, a.1, e))
little_equal (x ∷ xs) (y ∷ ys) h k e =
    let a = back_again x h.0 in
    let b = back_again y k.0 in
    let l = code_small x in
    let m = code_small y in
    let code : digit_code x ≡ digit_code y = omega (arith, a.1, b.1, l, m, e) in
    let rest : little xs ≡ little ys = omega (arith, a.1, b.1, l, m, e) in
    let first : x ≡ y = sym a.0 ∙ ap (λ n. digit_of (n - 1)) code ∙ b.0 in
    ap (λ z. z ∷ xs) first ∙ ap (λ zs. y ∷ zs) (little_equal xs ys h.1 k.1 rest)

pub digits_equal : (xs ys : List ℕ) → AllDigits xs → AllDigits ys → digits_key xs ≡ digits_key ys → xs ≡ ys
digits_equal xs ys h k e =
    let same = little_equal (onto xs []) (onto ys []) (all_onto xs [] h tt) (all_onto ys [] k tt) (sym (from_little xs []) ∙ e ∙ from_little ys []) in
    sym (onto_twice xs []) ∙ ap (λ zs. onto zs []) same ∙ onto_twice ys []

-- ---- a key spells its digits

some_left : (r c : ℕ) → 1 ≤ c → (16 * r + c == 0) ≡ false
some_left r c some = ne_eqb (16 * r + c) 0 (λ e. absurd (omega (arith, e, some)))

parted : (r c : ℕ) → c ≤ 15 → ((16 * r + c) / 16 ≡ r) × ((16 * r + c) % 16 ≡ c)
parted r c small = (omega (arith, small), omega (arith, small))

turned_step : (n r c after : ℕ) → 1 ≤ c → c ≤ 15 → turned_onto (suc n) (16 * r + c) after ≡ turned_onto n r (16 * after + c)
turned_step n r c after some small =
    cond-false (16 * r + c == 0) after (turned_onto n ((16 * r + c) / 16) (16 * after + (16 * r + c) % 16)) (some_left r c some)
    ∙ ap (λ (k : ℕ). turned_onto n k (16 * after + (16 * r + c) % 16)) (parted r c small).0
    ∙ ap (λ (m : ℕ). turned_onto n r (16 * after + m)) (parted r c small).1

last_step : (n r c : ℕ) → 1 ≤ c → c ≤ 15 → last_first (suc n) (16 * r + c) ≡ digit_of (c - 1) ∷ last_first n r
last_step n r c some small =
    cond-false (16 * r + c == 0) [] (digit_of ((16 * r + c) % 16 - 1) ∷ last_first n ((16 * r + c) / 16)) (some_left r c some)
    ∙ ap (λ (k : ℕ). digit_of ((16 * r + c) % 16 - 1) ∷ last_first n k) (parted r c small).0
    ∙ ap (λ (m : ℕ). digit_of (m - 1) ∷ last_first n r) (parted r c small).1

turned_little : (n : ℕ) (xs : List ℕ) (after : ℕ) → AllDigits xs → length xs ≤ n → turned_onto n (little xs) after ≡ digits_from after xs
turned_little zero [] after h l = refl
turned_little zero (x ∷ xs) after h l = let m : suc (length xs) ≤ 0 = l in absurd (omega (arith, m))
turned_little (suc n) [] after h l = refl
turned_little (suc n) (x ∷ xs) after h l =
    let m : suc (length xs) ≤ suc n = l in
    turned_step n (little xs) (digit_code x) after (back_again x h.0).1 (code_small x)
    ∙ turned_little n xs (16 * after + digit_code x) h.1 (omega (arith, m))

last_little : (n : ℕ) (xs : List ℕ) → AllDigits xs → length xs ≤ n → last_first n (little xs) ≡ xs
last_little zero [] h l = refl
last_little zero (x ∷ xs) h l = let m : suc (length xs) ≤ 0 = l in absurd (omega (arith, m))
last_little (suc n) [] h l = refl
last_little (suc n) (x ∷ xs) h l =
    let m : suc (length xs) ≤ suc n = l in
    last_step n (little xs) (digit_code x) (back_again x h.0).1 (code_small x)
    ∙ ap (λ (c : ℕ). c ∷ last_first n (little xs)) (back_again x h.0).0
    ∙ ap (λ (zs : List ℕ). x ∷ zs) (last_little n xs h.1 (omega (arith, m)))

few_onto : (n : ℕ) (xs done : List ℕ) → length xs + length done ≤ n → length (onto xs done) ≤ n
few_onto n [] done l =
    let m : 0 + length done ≤ n = l in
    omega (arith, m)
few_onto n (x ∷ xs) done l =
    let m : suc (length xs) + length done ≤ n = l in
    let r : length xs + suc (length done) ≤ n = omega (arith, m) in few_onto n xs (x ∷ done) r

pub spelled_is : (key : ℕ) → last_first 20 (turned_onto 20 key 0) ≡ spelled key
unfolding spelled
spelled_is key = refl

pub key_spells : (digits : List ℕ) → AllDigits digits → length digits ≤ 20 → spelled (digits_key digits) ≡ digits
unfolding spelled
key_spells digits h l =
    let m : length digits + 0 ≤ 20 = omega (arith, l) in
    ap (λ (k : ℕ). last_first 20 (turned_onto 20 k 0)) (from_little digits [])
    ∙ ap (λ (k : ℕ). last_first 20 k) (turned_little 20 (onto digits []) 0 (all_onto digits [] h tt) (few_onto 20 digits [] m))
    ∙ ap (λ (k : ℕ). last_first 20 k) (from_little (onto digits []) [] ∙ ap (λ (zs : List ℕ). little zs) (onto_twice digits []))
    ∙ last_little 20 digits h l

-- ---- the steps of both walks over a key

not_none : (key : ℕ) → 0 < key → (key == 0) ≡ false
not_none key some = ne_eqb key 0 (λ e. absurd (omega (arith, e, some)))

pub turned_on : (n m key after : ℕ) → n ≡ suc m → 0 < key → turned_onto n key after ≡ turned_onto m (key / 16) (16 * after + key % 16)
turned_on n m key after e some =
    ap (λ (k : ℕ). turned_onto k key after) e ∙ cond-false (key == 0) after (turned_onto m (key / 16) (16 * after + key % 16)) (not_none key some)

pub turned_out : (n key after : ℕ) → key ≡ 0 → turned_onto n key after ≡ after
turned_out zero key after none = refl
turned_out (suc n) key after none = cond-true (key == 0) after (turned_onto n (key / 16) (16 * after + key % 16)) (eq-eqb key 0 none)

pub turned_all : (n key after : ℕ) → n ≡ 0 → turned_onto n key after ≡ after
turned_all n key after e = ap (λ (k : ℕ). turned_onto k key after) e

pub last_on : (n m key : ℕ) → n ≡ suc m → 0 < key → last_first n key ≡ digit_of (key % 16 - 1) ∷ last_first m (key / 16)
last_on n m key e some =
    ap (λ (k : ℕ). last_first k key) e ∙ cond-false (key == 0) [] (digit_of (key % 16 - 1) ∷ last_first m (key / 16)) (not_none key some)

pub last_out : (n key : ℕ) → key ≡ 0 → last_first n key ≡ []
last_out zero key none = refl
last_out (suc n) key none = cond-true (key == 0) [] (digit_of (key % 16 - 1) ∷ last_first n (key / 16)) (eq-eqb key 0 none)

pub last_all : (n key : ℕ) → n ≡ 0 → last_first n key ≡ []
last_all n key e = ap (λ (k : ℕ). last_first k key) e

pub one_more : (xs : List ℕ) (x n : ℕ) → length xs ≡ n → length (xs ++ x ∷ []) ≡ n + 1
one_more [] x n e = let z : 0 ≡ n = e in omega (arith, z)
one_more (y ∷ ys) x zero e = absurd (let l : suc (length ys) ≡ 0 = e in omega (arith, l))
one_more (y ∷ ys) x (suc n) e =
    let l : suc (length ys) ≡ suc n = e in
    let r : length (ys ++ x ∷ []) ≡ n + 1 = one_more ys x n (omega (arith, l)) in omega (arith, r)

-- by the keys that they were made of, two spellings are equal where the keys are
pub same_keys : (key other : ℕ) → digits_key (spelled key) ≡ key → digits_key (spelled other) ≡ other → (key == other) ≡ bytes_eq (spelled key) (spelled other)
same_keys key other is others = same_bool (key == other) (bytes_eq (spelled key) (spelled other))
    (λ t. (bytes_eq-Decides (spelled key) (spelled other)).1 (ap (λ (k : ℕ). spelled k) (eqb-true key other t)))
    (λ t. eq-eqb key other (sym is ∙ ap (λ (ds : List ℕ). digits_key ds) ((bytes_eq-Decides (spelled key) (spelled other)).0 t) ∙ others))

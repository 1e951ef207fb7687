-- The sequence number of a deliver_sm is free, and those that wait stay different.
use Rattle.std.proofs.Common.{◌≡◌, ◌⊎◌, inl, inr, ℕ, zero, suc, ◌+◌, ◌-◌, ◌<◌, ◌≤◌, Bool, true, false, cond, eqb, ltb, List, [], ◌∷◌, ◌++◌, length, refl, sym, ap, ◌∙◌, arith}
use Rattle.std.specs.List.{AllByRecursion}
use Rattle.std.proofs.lemmas.Bool.{ltb-true, ltb-false}
use Rattle.std.proofs.lemmas.Bool.Decides.{eqb_tells}
use Rattle.std.proofs.lemmas.List.{length-append}
use Rattle.sms_base.proofs.Lists.{all_append}
use Rattle.smpp_pdu.specs.SequenceNumbers.{number_after}
use Rattle.smpp_session.specs.Windows.{is_among, without, numbers_from, first_free, free_number, IsSequenceNumber, AreDistinct, IsWindow}

-- ---- as the walk over the numbers goes

pub one_more_number : (passed n other : ℕ) (waiting : List ℕ) → passed < 10
    → first_free other waiting (numbers_from (10 - passed) n) ≡ cond (is_among n waiting) (first_free other waiting (numbers_from (10 - (passed + 1)) (number_after n))) n
one_more_number passed n other waiting fits =
    let more : 10 - passed ≡ suc (10 - (passed + 1)) = omega arith in
    ap (λ (k : ℕ). first_free other waiting (numbers_from k n)) more

-- ---- which number is smaller

ltb_tells : (a b : ℕ) → ((ltb a b ≡ true) × (a < b)) ⊎ ((ltb a b ≡ false) × (b ≤ a))
ltb_tells a b = by_test (ltb a b) refl where
  by_test : (t : Bool) → ltb a b ≡ t → ((ltb a b ≡ true) × (a < b)) ⊎ ((ltb a b ≡ false) × (b ≤ a))
  by_test true e = inl (e, ltb-true a b e)
  by_test false e = inr (e, ltb-false a b e)

-- ---- each of a list

all_map : {A : Type 0} {P Q : A → Type 0} → ((x : A) → P x → Q x) → (xs : List A) → AllByRecursion P xs → AllByRecursion Q xs
all_map f [] h = tt
all_map f (x ∷ xs) h = (f x h.0, all_map f xs h.1)

-- ---- numbers in a row

abbrev last : ℕ
last = 2147483647

-- a number of a row: it stands before the last one, or goes on from 1
abbrev Within : ℕ → ℕ → ℕ → Type 0
Within count start x = ((start ≤ x) × (x < start + count)) ⊎ (x + last < start + count)

within_more : (count start x : ℕ) → Within count (number_after start) x → Within (suc count) start x
within_more count start x = by_test (ltb_tells start last) where
  by_test : ((ltb start last ≡ true) × (start < last)) ⊎ ((ltb start last ≡ false) × (last ≤ start)) → Within count (number_after start) x → Within (suc count) start x
  by_test (inl t) = elim [
    | inl h ↦ (let a : start + 1 ≤ x = rw t.0 at h.0 in let b : x < start + 1 + count = rw t.0 at h.1 in inl (omega arith, omega arith))
    | inr h ↦ (let a : x + last < start + 1 + count = rw t.0 at h in inr (omega arith))
  ]
  by_test (inr t) = elim [
    | inl h ↦ (let b : x < 1 + count = rw t.0 at h.1 in inr (omega (arith, t.1)))
    | inr h ↦ (let a : x + last < 1 + count = rw t.0 at h in inr (omega (arith, t.1)))
  ]

are_within : (count start : ℕ) → AllByRecursion (Within count start) (numbers_from count start)
are_within zero start = tt
are_within (suc count) start = (inl (omega arith, omega arith), all_map (within_more count start) (numbers_from count (number_after start)) (are_within count (number_after start)))

not_among : (n : ℕ) (xs : List ℕ) → AllByRecursion (λ x. x ≡ n → ⊥) xs → is_among n xs ≡ false
not_among n [] h = refl
not_among n (x ∷ xs) h = elim (eqb_tells x n) [
  | inl w ↦ absurd (h.0 w.1)
  | inr w ↦ rw w.0 (not_among n xs h.1)
]

others : (n : ℕ) (xs : List ℕ) → is_among n xs ≡ false → AllByRecursion (λ x. x ≡ n → ⊥) xs
others n [] e = tt
others n (x ∷ xs) e = elim (eqb_tells x n) [
  | inl w ↦ absurd (let f : true ≡ false = (rw w.0 at e) in cc)
  | inr w ↦ (let rest : is_among n xs ≡ false = (rw w.0 at e) in (w.1, others n xs rest))
]

not_again : (count start x : ℕ) → suc count ≤ last → Within count (number_after start) x → x ≡ start → ⊥
not_again count start x few = by_test (ltb_tells start last) where
  by_test : ((ltb start last ≡ true) × (start < last)) ⊎ ((ltb start last ≡ false) × (last ≤ start)) → Within count (number_after start) x → x ≡ start → ⊥
  by_test (inl t) (inl h) e = let a : start + 1 ≤ x = rw t.0 at h.0 in omega arith
  by_test (inl t) (inr h) e = let a : x + last < start + 1 + count = rw t.0 at h in omega arith
  by_test (inr t) (inl h) e = let b : x < 1 + count = rw t.0 at h.1 in omega (arith, t.1)
  by_test (inr t) (inr h) e = let a : x + last < 1 + count = rw t.0 at h in omega (arith, t.1)

row_distinct : (count start : ℕ) → count ≤ last → AreDistinct (numbers_from count start)
row_distinct zero start few = tt
row_distinct (suc count) start few = (
  not_among start (numbers_from count (number_after start)) (all_map (λ x. not_again count start x few) (numbers_from count (number_after start)) (are_within count (number_after start))),
  row_distinct count (number_after start) (omega arith),
)

row_length : (count start : ℕ) → length (numbers_from count start) ≡ count
row_length zero start = refl
row_length (suc count) start = ap suc (row_length count (number_after start))

pub after_is_number : (n : ℕ) → IsSequenceNumber n → IsSequenceNumber (number_after n)
after_is_number n h = elim (ltb_tells n last) [
  | inl t ↦ rw t.0 (omega arith, omega (arith, t.1))
  | inr t ↦ rw t.0 (omega arith, omega arith)
]

row_numbers : (count start : ℕ) → IsSequenceNumber start → AllByRecursion IsSequenceNumber (numbers_from count start)
row_numbers zero start h = tt
row_numbers (suc count) start h = (h, row_numbers count (number_after start) (after_is_number start h))

-- ---- fewer wait than there are numbers, so that one is free

without_length : (n : ℕ) (xs : List ℕ) → is_among n xs ≡ true → length xs ≡ length (without n xs) + 1
without_length n [] e = absurd cc
without_length n (x ∷ xs) e = elim (eqb_tells x n) [
  | inl w ↦ rw w.0 (omega arith)
  | inr w ↦ (let more = without_length n xs (rw w.0 at e) in rw w.0 (omega (arith, more)))
]

still_among : (n m : ℕ) (xs : List ℕ) → (m ≡ n → ⊥) → is_among m xs ≡ true → is_among m (without n xs) ≡ true
still_among n m [] differs e = absurd cc
still_among n m (x ∷ xs) differs e = elim (eqb_tells x n) [
  | inl w ↦ (elim (eqb_tells x m) [
    | inl v ↦ absurd (differs (sym v.1 ∙ w.1))
    | inr v ↦ rw w.0 (rw v.0 at e)
  ])
  | inr w ↦ (elim (eqb_tells x m) [
    | inl v ↦ rw (w.0, v.0) refl
    | inr v ↦ (let more = still_among n m xs differs (rw v.0 at e) in rw (w.0, v.0) more)
  ])
]

abbrev AreAmong : List ℕ → List ℕ → Type 0
AreAmong numbers waiting = AllByRecursion (λ n. is_among n waiting ≡ true) numbers

among_without : (n : ℕ) (numbers waiting : List ℕ) → AllByRecursion (λ x. x ≡ n → ⊥) numbers → AreAmong numbers waiting → AreAmong numbers (without n waiting)
among_without n [] waiting d a = tt
among_without n (x ∷ xs) waiting d a = (still_among n x waiting d.0 a.0, among_without n xs waiting d.1 a.1)

no_more : (numbers waiting : List ℕ) → AreDistinct numbers → AreAmong numbers waiting → length numbers ≤ length waiting
no_more [] waiting d a = omega arith
no_more (n ∷ ns) waiting d a =
    let fewer : length ns ≤ length (without n waiting) = no_more ns (without n waiting) d.1 (among_without n ns waiting (others n ns d.0) a.1) in
    let one : length waiting ≡ length (without n waiting) + 1 = without_length n waiting a.0 in
    omega arith

free_or_all : (other : ℕ) (waiting numbers : List ℕ) → (is_among (first_free other waiting numbers) waiting ≡ false) ⊎ AreAmong numbers waiting
free_or_all other waiting [] = inr tt
free_or_all other waiting (n ∷ ns) = by_test (is_among n waiting) refl (free_or_all other waiting ns) where
  by_test : (b : Bool) → is_among n waiting ≡ b → (is_among (first_free other waiting ns) waiting ≡ false) ⊎ AreAmong ns waiting
      → (is_among (cond (is_among n waiting) (first_free other waiting ns) n) waiting ≡ false) ⊎ AreAmong (n ∷ ns) waiting
  by_test true e (inl h) = inl (rw e h)
  by_test true e (inr h) = inr (e, h)
  by_test false e h = inl (ap (λ (b : Bool). is_among (cond b (first_free other waiting ns) n) waiting) e ∙ e)

pub free_is_free : (n : ℕ) (waiting : List ℕ) → length waiting < 10 → is_among (free_number n waiting) waiting ≡ false
unfolding free_number
free_is_free n waiting few = elim (free_or_all n waiting (numbers_from 10 n)) [
  | inl h ↦ h
  | inr h ↦ absurd (let most = no_more (numbers_from 10 n) waiting (row_distinct 10 n (omega arith)) h in omega (arith, most, row_length 10 n))
]

first_is_number : (other : ℕ) (waiting numbers : List ℕ) → IsSequenceNumber other → AllByRecursion IsSequenceNumber numbers → IsSequenceNumber (first_free other waiting numbers)
first_is_number other waiting [] o h = o
first_is_number other waiting (n ∷ ns) o h = by_test (first_is_number other waiting ns o h.1) (is_among n waiting) where
  by_test : IsSequenceNumber (first_free other waiting ns) → (b : Bool) → IsSequenceNumber (cond b (first_free other waiting ns) n)
  by_test later true = later
  by_test later false = h.0

pub free_is_number : (n : ℕ) (waiting : List ℕ) → IsSequenceNumber n → IsSequenceNumber (free_number n waiting)
unfolding free_number
free_is_number n waiting h = first_is_number n waiting (numbers_from 10 n) h (row_numbers 10 n h)

-- ---- those that wait

among_end : (x n : ℕ) (xs : List ℕ) → is_among x xs ≡ false → (n ≡ x → ⊥) → is_among x (xs ++ n ∷ []) ≡ false
among_end x n [] e differs = elim (eqb_tells n x) [
  | inl w ↦ absurd (differs w.1)
  | inr w ↦ rw w.0 refl
]
among_end x n (y ∷ ys) e differs = elim (eqb_tells y x) [
  | inl w ↦ absurd (let f : true ≡ false = (rw w.0 at e) in cc)
  | inr w ↦ (let more = among_end x n ys (rw w.0 at e) differs in rw w.0 more)
]

distinct_end : (n : ℕ) (xs : List ℕ) → AreDistinct xs → is_among n xs ≡ false → AreDistinct (xs ++ n ∷ [])
distinct_end n [] d e = (refl, tt)
distinct_end n (x ∷ xs) d e =
    let differ = others n (x ∷ xs) e in
    let rest : is_among n xs ≡ false = not_among n xs differ.1 in
    (among_end x n xs d.0 (λ h. differ.0 (sym h)), distinct_end n xs d.1 rest)

pub window_added : (n : ℕ) (waiting : List ℕ) → IsWindow waiting → length waiting < 10 → is_among n waiting ≡ false → IsSequenceNumber n → IsWindow (waiting ++ n ∷ [])
window_added n waiting h few free number = record {
  few = omega (arith, length-append waiting (n ∷ []));
  distinct = distinct_end n waiting h.distinct free;
  numbers = all_append IsSequenceNumber waiting (n ∷ []) h.numbers (number, tt);
}

shorter : (n : ℕ) (xs : List ℕ) → length (without n xs) ≤ length xs
shorter n [] = omega arith
shorter n (x ∷ xs) = elim (eqb_tells x n) [
  | inl w ↦ rw w.0 (omega arith)
  | inr w ↦ (let more = shorter n xs in rw w.0 (omega (arith, more)))
]

all_without : (P : ℕ → Type 0) (n : ℕ) (xs : List ℕ) → AllByRecursion P xs → AllByRecursion P (without n xs)
all_without P n [] h = tt
all_without P n (x ∷ xs) h = by_test (all_without P n xs h.1) (eqb x n) where
  by_test : AllByRecursion P (without n xs) → (b : Bool) → AllByRecursion P (cond b xs (x ∷ without n xs))
  by_test rest true = h.1
  by_test rest false = (h.0, rest)

distinct_without : (n : ℕ) (xs : List ℕ) → AreDistinct xs → AreDistinct (without n xs)
distinct_without n [] d = tt
distinct_without n (x ∷ xs) d = by_test (distinct_without n xs d.1) (eqb x n) where
  by_test : AreDistinct (without n xs) → (b : Bool) → AreDistinct (cond b xs (x ∷ without n xs))
  by_test rest true = d.1
  by_test rest false = (not_among x (without n xs) (all_without (λ y. y ≡ x → ⊥) n xs (others x xs d.0)), rest)

pub window_taken : (n : ℕ) (waiting : List ℕ) → IsWindow waiting → IsWindow (without n waiting)
window_taken n waiting h = record {
  few = omega (arith, shorter n waiting, h.few);
  distinct = distinct_without n waiting h.distinct;
  numbers = all_without IsSequenceNumber n waiting h.numbers;
}

pub no_window : IsWindow []
no_window = record { few = omega arith; distinct = tt; numbers = tt }

pub found_free : (passed n other : ℕ) (waiting : List ℕ) → passed < 10 → is_among n waiting ≡ false → first_free other waiting (numbers_from (10 - passed) n) ≡ n
found_free passed n other waiting fits free =
    one_more_number passed n other waiting fits ∙ ap (λ (b : Bool). cond b (first_free other waiting (numbers_from (10 - (passed + 1)) (number_after n))) n) free

pub passed_over : (passed n next other : ℕ) (waiting : List ℕ) → passed < 10 → is_among n waiting ≡ true → next ≡ number_after n
    → first_free other waiting (numbers_from (10 - passed) n) ≡ first_free other waiting (numbers_from (10 - (passed + 1)) next)
passed_over passed n next other waiting fits waits is =
    one_more_number passed n other waiting fits
    ∙ (ap (λ (b : Bool). cond b (first_free other waiting (numbers_from (10 - (passed + 1)) (number_after n))) n) waits
    ∙ ap (λ (m : ℕ). first_free other waiting (numbers_from (10 - (passed + 1)) m)) (sym is))

-- Walks by place over accounts and over numbers.
use Rattle.std.proofs.Common.{◌≡◌, ℕ, suc, ◌+◌, ◌<◌, ◌≤◌, Bool, true, false, cond, arith, eqb, eq-eqb, inl, inr, List, [], ◌∷◌, ◌++◌, length, get_or, take, drop, refl, sym, ap, ◌∙◌, add-one}
use Rattle.std.specs.Str.{bytes_eq}
use Rattle.std.specs.List.{remove}
use Rattle.std.proofs.Math.Seq.{drop-cons, take-suc}
use Rattle.std.proofs.lemmas.Bool.Decides.{eqb_tells}
use Rattle.std.proofs.lemmas.List.{drop_all, append_assoc, append-nil, take_all}
use Rattle.sms_base.proofs.Lists.{drop_item}
use Rattle.smpp_session.specs.declared.account.Account.{Account}
use Rattle.smpp_session.specs.declared.account.Login.TheVariants.{Known, UnknownName, WrongPassword}
use Rattle.smpp_session.specs.Logins.{is_own, login}
use Rattle.smpp_session.specs.Windows.{is_among, is_none, without}

pub login_at : (i : ℕ) (n p : List ℕ) (xs : List Account) (a : Account) → i < length xs → a ≡ get_or xs i a
    → login i n p (drop i xs) ≡ cond (bytes_eq a.name n) (cond (is_own a.password p) (Known i) WrongPassword) (login (i + 1) n p (drop (i + 1) xs))
login_at i n p xs a fits is = ap (login i n p) (drop_item xs i a fits is)

pub login_end : (i : ℕ) (n p : List ℕ) (xs : List Account) → length xs ≤ i → login i n p (drop i xs) ≡ UnknownName
login_end i n p xs past = ap (login i n p) (drop_all i xs past)

number_item : (xs : List ℕ) (i : ℕ) → i < length xs → drop i xs ≡ get_or xs i 0 ∷ drop (i + 1) xs
number_item xs i fits = drop-cons xs i 0 fits ∙ ap (λ (j : ℕ). get_or xs i 0 ∷ drop j xs) (sym (add-one i))

-- what is known when the numbers before a place are others
pub record Passed (n : ℕ) (xs : List ℕ) (i : ℕ) : Type 0 where
  pub among : is_among n xs ≡ is_among n (drop i xs)
  pub left : without n xs ≡ take i xs ++ without n (drop i xs)

pub passed_none : (n : ℕ) (xs : List ℕ) → Passed n xs 0
passed_none n xs = record { among = refl; left = refl }

pub passed_one : (n : ℕ) (xs : List ℕ) (i : ℕ) → i < length xs → (get_or xs i 0 ≡ n → ⊥) → Passed n xs i → Passed n xs (i + 1)
passed_one n xs i fits differs p =
    let other : eqb (get_or xs i 0) n ≡ false = elim (eqb_tells (get_or xs i 0) n) [ inl w ↦ absurd (differs w.1) | inr w ↦ w.0 ] in
    let item = number_item xs i fits in
    let front : take (i + 1) xs ≡ take i xs ++ get_or xs i 0 ∷ [] = rw add-one (take-suc xs i 0 fits) in
    let rest : without n (get_or xs i 0 ∷ drop (i + 1) xs) ≡ get_or xs i 0 ∷ without n (drop (i + 1) xs) = rw other refl in
    let behind : is_among n (get_or xs i 0 ∷ drop (i + 1) xs) ≡ is_among n (drop (i + 1) xs) = rw other refl in
    record {
      among = p.among ∙ (ap (is_among n) item ∙ behind);
      left = p.left
          ∙ (ap (λ (ys : List ℕ). take i xs ++ without n ys) item
          ∙ (ap (λ (ys : List ℕ). take i xs ++ ys) rest
          ∙ (sym (append_assoc (take i xs) (get_or xs i 0 ∷ []) (without n (drop (i + 1) xs)))
          ∙ ap (λ (ys : List ℕ). ys ++ without n (drop (i + 1) xs)) (sym front))));
    }

pub found_at : (n : ℕ) (xs : List ℕ) (i : ℕ) → i < length xs → get_or xs i 0 ≡ n → Passed n xs i → (i < length xs) × (is_among n xs ≡ true) × (without n xs ≡ remove xs i)
found_at n xs i fits equal p =
    let same : eqb (get_or xs i 0) n ≡ true = eq-eqb (get_or xs i 0) n equal in
    let item : drop i xs ≡ get_or xs i 0 ∷ drop (suc i) xs = drop-cons xs i 0 fits in
    let rest : without n (get_or xs i 0 ∷ drop (suc i) xs) ≡ drop (suc i) xs = rw same refl in
    let here : is_among n (get_or xs i 0 ∷ drop (suc i) xs) ≡ true = rw same refl in
    (fits, p.among ∙ (ap (is_among n) item ∙ here), p.left ∙ (ap (λ (ys : List ℕ). take i xs ++ without n ys) item ∙ ap (λ (ys : List ℕ). take i xs ++ ys) rest))

pub passed_all : (n : ℕ) (xs : List ℕ) (i : ℕ) → length xs ≤ i → Passed n xs i → (is_among n xs ≡ false) × (without n xs ≡ xs)
passed_all n xs i past p =
    let none : drop i xs ≡ [] = drop_all i xs past in
    let all : take i xs ≡ xs = take_all i xs past in
    (p.among ∙ ap (is_among n) none, p.left ∙ (ap (λ (ys : List ℕ). take i xs ++ without n ys) none ∙ (append-nil (take i xs) ∙ all)))

-- what is left of two or more when one is taken away
pub more_left : (n : ℕ) (xs : List ℕ) → 2 ≤ length xs → is_none (without n xs) ≡ false
more_left n [] long = absurd (omega (arith, long))
more_left n (x ∷ []) long = absurd (omega (arith, long))
more_left n (x ∷ y ∷ xs) long = by_test (eqb x n) where
  by_test : (b : Bool) → is_none (cond b (y ∷ xs) (x ∷ without n (y ∷ xs))) ≡ false
  by_test true = refl
  by_test false = refl

-- Rows in order are told by their look-ups.
use Rattle.std.proofs.Common.{◌≡◌, ℕ, ◌/◌, ◌%◌, ◌<◌, ◌≤◌, List, [], ◌∷◌, Some, None, refl, sym, ◌∙◌, ap, ⊎_elim, arith}
use Rattle.std.proofs.lemmas.Bool.{cases_eq, cases_lt}
use Rattle.sms_rows.specs.table.Keys.{pair_key}
use Rattle.sms_rows.specs.table.Table.{AllAbove, Rises, row_at}
use Rattle.sms_rows.proofs.table.Tables.{above_lower, row_behind, row_here}

-- no row of a key is among rows of greater keys
pub above_none : {A : Type 0} (key : A → ℕ) (n : ℕ) (xs : List A) → AllAbove key n xs → row_at key n xs ≡ None
above_none key n [] h = refl
above_none key n (x ∷ xs) h = let l = h.0 in row_behind key n x xs (λ e. absurd (omega (arith, l, e))) ∙ above_none key n xs h.1

behind_alike : {A : Type 0} (key : A → ℕ) (x y : A) (xs ys : List A) (k : ℕ) → key x ≡ key y → AllAbove key (key x) xs → AllAbove key (key y) ys
    → row_at key k (x ∷ xs) ≡ row_at key k (y ∷ ys) → row_at key k xs ≡ row_at key k ys
behind_alike key x y xs ys k e above others same = ⊎_elim
    (λ (q : key x ≡ k).
    ap (λ (n : ℕ). row_at key n xs) (sym q) ∙ above_none key (key x) xs above
    ∙ sym (ap (λ (n : ℕ). row_at key n ys) (sym q ∙ e) ∙ above_none key (key y) ys others))
    (λ (q : key x ≡ k → ⊥). sym (row_behind key k x xs q) ∙ same ∙ row_behind key k y ys (λ f. q (e ∙ f)))
    (cases_eq (key x) k)

pub rises_alike : {A : Type 0} (key : A → ℕ) (xs ys : List A) → Rises key xs → Rises key ys → ((k : ℕ) → row_at key k xs ≡ row_at key k ys) → xs ≡ ys
rises_alike key [] [] a b same = refl
rises_alike key [] (y ∷ ys) a b same = let bad : None ≡ Some y = same (key y) ∙ row_here key (key y) y ys refl in absurd cc
rises_alike key (x ∷ xs) [] a b same = let bad : Some x ≡ None = sym (row_here key (key x) x xs refl) ∙ same (key x) in absurd cc
rises_alike {A} key (x ∷ xs) (y ∷ ys) a b same = ⊎_elim
    (λ (l : key x < key y).
    let bad : Some x ≡ None = sym (row_here key (key x) x xs refl) ∙ same (key x) ∙ above_none key (key x) (y ∷ ys) (l, above_lower key (key x) (key y) ys (omega arith) b.0) in absurd cc)
    (λ (l : key y ≤ key x). ⊎_elim
    (λ (e : key x ≡ key y).
    let first : Some x ≡ Some y = sym (row_here key (key x) x xs refl) ∙ same (key x) ∙ row_here key (key x) y ys (sym e) in
    let rest : xs ≡ ys = rises_alike key xs ys a.1 b.1 (λ k. behind_alike key x y xs ys k e a.0 b.0 (same k)) in
    cc)
    (λ (e : key x ≡ key y → ⊥).
    let m : key y < key x = omega (arith, l, e) in
    let bad : None ≡ Some y = sym (above_none key (key y) (x ∷ xs) (m, above_lower key (key y) (key x) xs (omega arith) a.0)) ∙ same (key y) ∙ row_here key (key y) y ys refl in absurd cc)
    (cases_eq (key x) (key y)))
    (cases_lt (key x) (key y))

-- so are rows with keys of two parts, the second below 256
pub pairs_alike : {A : Type 0} (key : A → ℕ) (xs ys : List A) → Rises key xs → Rises key ys
    → ((first second : ℕ) → second < 256 → row_at key (pair_key first second) xs ≡ row_at key (pair_key first second) ys) → xs ≡ ys
pairs_alike {A} key xs ys a b same = rises_alike key xs ys a b (λ k.
    let first : ℕ = k / 256 in
    let second : ℕ = k % 256 in
    let small : second < 256 = omega arith in
    let whole : pair_key first second ≡ k = omega arith in
    ap (λ (n : ℕ). row_at key n xs) (sym whole) ∙ same first second small ∙ ap (λ (n : ℕ). row_at key n ys) whole)

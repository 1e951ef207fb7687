-- Rows in two parts: what is found, offered and held in both, and what is put or removed behind the first.
use Rattle.std.proofs.Common.{◌≡◌, ℕ, suc, ◌-◌, ◌<◌, List, [], ◌∷◌, ◌++◌, length, Option, Some, Bool, false, refl, sym, ◌∙◌, ap, subst, arith, ⊎_elim}
use Rattle.std.specs.Prelude.{◌==◌, ◌&&◌, ◌||◌, not, slice_get}
use Rattle.std.specs.Option.{option_or}
use Rattle.std.proofs.lemmas.Bool.{cases_eq, cond-false, ne_eqb}
use Rattle.sms_base.proofs.Bools.{or_assoc}
use Rattle.sms_rows.specs.table.Keys.{pair_key}
use Rattle.sms_rows.specs.table.Table.{Rises, insert, put, row_at, without}
use Rattle.sms_rows.proofs.table.Tables.{insert_behind, rises_put, rises_without, row_behind, row_here, without_behind}
use Rattle.sms_centre_rows.specs.declared.waiting.queued_part.QueuedPart.{QueuedPart}
use Rattle.sms_centre_rows.specs.waiting.Keys.{queued_key}
use Rattle.sms_centre_rows.specs.waiting.Waiting.{is_due, is_part_of, is_same, waits_beside, withdrawn}
use Rattle.sms_centre_rows.proofs.waiting.Withdrawing.{rises_withdrawn}
use Rattle.sms_schedule.specs.waiting.Base.{AllBelow}

module _ {A : Type 0} (key : A → ℕ) where
  -- ---- the last row is below a key where all are

  pub last_below : (n : ℕ) (xs : List A) (x : A) → Rises key xs → slice_get xs (length xs - 1) ≡ Some x → key x < n → AllBelow key n xs
  last_below n [] x rises last lower = tt
  last_below n (y ∷ []) x rises last lower = let same : Some y ≡ Some x = last in let q : y ≡ x = cc in (subst (λ (z : A). key z < n) (sym q) lower, tt)
  last_below n (y ∷ z ∷ zs) x rises last lower =
      let place : length (y ∷ z ∷ zs) - 1 ≡ suc (length (z ∷ zs) - 1) = omega arith in
      let rest = last_below n (z ∷ zs) x rises.1 (subst (λ (k : ℕ). slice_get (y ∷ z ∷ zs) k ≡ Some x) place last) lower in
      (omega (arith, rises.0.0, rest.0), rest)

  pub below_last : (n : ℕ) (xs : List A) (x : A) → slice_get xs (length xs - 1) ≡ Some x → AllBelow key n xs → key x < n
  below_last n [] x last below = absurd cc
  below_last n (y ∷ []) x last below = let same : Some y ≡ Some x = last in let q : y ≡ x = cc in subst (λ (z : A). key z < n) q below.0
  below_last n (y ∷ z ∷ zs) x last below =
      let place : length (y ∷ z ∷ zs) - 1 ≡ suc (length (z ∷ zs) - 1) = omega arith in
      below_last n (z ∷ zs) x (subst (λ (k : ℕ). slice_get (y ∷ z ∷ zs) k ≡ Some x) place last) below.1

  -- ---- what is found

  pub row_at_parted : (n : ℕ) (xs ys : List A) → row_at key n (xs ++ ys) ≡ option_or (row_at key n xs) (row_at key n ys)
  row_at_parted n [] ys = refl
  row_at_parted n (x ∷ xs) ys = ⊎_elim
      (λ (e : key x ≡ n). row_here key n x (xs ++ ys) e ∙ ap (λ (o : Option A). option_or o (row_at key n ys)) (sym (row_here key n x xs e)))
      (λ (e : key x ≡ n → ⊥).
      row_behind key n x (xs ++ ys) e ∙ row_at_parted n xs ys ∙ ap (λ (o : Option A). option_or o (row_at key n ys)) (sym (row_behind key n x xs e)))
      (cases_eq (key x) n)

  -- ---- what is put or removed behind the first part

  pub without_parted : (n : ℕ) (xs ys : List A) → AllBelow key n xs → without key n (xs ++ ys) ≡ xs ++ without key n ys
  without_parted n [] ys below = refl
  without_parted n (x ∷ xs) ys below =
      without_behind key n x (xs ++ ys) (λ e. absurd (omega (arith, e, below.0))) ∙ ap (λ (l : List A). x ∷ l) (without_parted n xs ys below.1)

  insert_parted : (z : A) (xs ys : List A) → AllBelow key (key z) xs → insert key z (xs ++ ys) ≡ xs ++ insert key z ys
  insert_parted z [] ys below = refl
  insert_parted z (x ∷ xs) ys below =
      insert_behind key z x (xs ++ ys) (omega (arith, below.0)) ∙ ap (λ (l : List A). x ∷ l) (insert_parted z xs ys below.1)

  pub put_parted : (z : A) (xs ys : List A) → AllBelow key (key z) xs → put key z (xs ++ ys) ≡ xs ++ put key z ys
  put_parted z xs ys below =
      ap (λ (l : List A). insert key z l) (without_parted (key z) xs ys below) ∙ insert_parted z xs (without key (key z) ys) below

  pub rises_put_parted : (z : A) (xs ys : List A) → AllBelow key (key z) xs → Rises key (xs ++ ys) → Rises key (xs ++ put key z ys)
  rises_put_parted z xs ys below rises = subst (λ (l : List A). Rises key l) (put_parted z xs ys below) (rises_put key z (xs ++ ys) rises)

  pub rises_without_parted : (n : ℕ) (xs ys : List A) → AllBelow key n xs → Rises key (xs ++ ys) → Rises key (xs ++ without key n ys)
  rises_without_parted n xs ys below rises = subst (λ (l : List A). Rises key l) (without_parted n xs ys below) (rises_without key n (xs ++ ys) rises)

-- ---- what is offered

pub beside_parted : (now : ℕ) (chosen : QueuedPart) (ls ks : List QueuedPart) → waits_beside now chosen (ls ++ ks) ≡ (waits_beside now chosen ls || waits_beside now chosen ks)
beside_parted now chosen [] ks = refl
beside_parted now chosen (l ∷ ls) ks =
    ap (λ b. (is_due now l && not (is_same l chosen)) || b) (beside_parted now chosen ls ks)
    ∙ or_assoc (is_due now l && not (is_same l chosen)) (waits_beside now chosen ls) (waits_beside now chosen ks)

-- ---- the parts of a message wait no more

pub withdrawn_parted : (id : ℕ) (ls ks : List QueuedPart) → AllBelow queued_key (pair_key id 0) ls → withdrawn id (ls ++ ks) ≡ ls ++ withdrawn id ks
withdrawn_parted id [] ks below = refl
withdrawn_parted id (l ∷ ls) ks below =
    let another : ¬ (l.id ≡ id) = λ e. absurd (omega (arith, e, below.0)) in
    let other : is_part_of id l ≡ false = ap (λ (b : Bool). b && not (l.number == 0)) (ne_eqb l.id id another) in
    cond-false (is_part_of id l) (withdrawn id (ls ++ ks)) (l ∷ withdrawn id (ls ++ ks)) other
    ∙ ap (λ (r : List QueuedPart). l ∷ r) (withdrawn_parted id ls ks below.1)

pub rises_withdrawn_parted : (id : ℕ) (ls ks : List QueuedPart) → AllBelow queued_key (pair_key id 0) ls → Rises queued_key (ls ++ ks) → Rises queued_key (ls ++ withdrawn id ks)
rises_withdrawn_parted id ls ks below rises =
    subst (λ (r : List QueuedPart). Rises queued_key r) (withdrawn_parted id ls ks below) (rises_withdrawn id (ls ++ ks) rises)

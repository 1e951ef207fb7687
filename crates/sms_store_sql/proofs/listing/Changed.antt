-- What it makes of rows under rowids, and of a list in the order of its keys, that the row of one key becomes another.
use Rattle.std.proofs.Common.{◌≡◌, ℕ, ◌<◌, ◌≤◌, ◌==◌, nat_lt, ℤ, ◌<ℤ◌, List, [], ◌∷◌, map, filter, length, Bool, true, false, not, cond, refl, sym, ap, ap₂, subst, ◌∙◌, arith, int_cmp, Greater}
use Rattle.std.specs.List.{AllByRecursion}
use Rattle.std.specs.Ordering.{match_ordering}
use Rattle.std.proofs.lemmas.Bool.Decides.{nat_tests}
use Rattle.std.proofs.lemmas.Int.{ints}
use Rattle.sqlite.specs.Order.{Row}
use Rattle.sqlite_rules.specs.declared.error.Rowids.TheVariants.{Given}
use Rattle.sqlite_rules.specs.Edit.{numbered}
use Rattle.sqlite_keyed.specs.Keyed.{IsKeyedBy, insert_by}
use Rattle.sqlite_keyed.specs.Lists.{update_where, delete_where}
use Rattle.sqlite_keyed.proofs.ListLemmas.{all_weaker, all-filter}
use Rattle.sqlite_keyed.proofs.KeyedLemmas.{Less-from_lt}
use Rattle.sms_rows.specs.table.Table.{Rises, AllAbove, without, insert, put}
use Rattle.sms_rows.proofs.table.Tables.{insert_here, above_lower}
use Rattle.sms_store_sql.proofs.listing.OneRow.{has, none_above}

-- ---- rows under rowids

module _ {E : Type 0} (p : E → Bool) where
  -- a list of which none passes
  pub none_updated : (f : E → E) (xs : List E) → filter p xs ≡ [] → update_where p f xs ≡ xs
  none_updated f [] none = refl
  none_updated f (x ∷ xs) none = go (p x) none (none_updated f xs)
    where
      go : (b : Bool) → cond b (x ∷ filter p xs) (filter p xs) ≡ [] → (filter p xs ≡ [] → update_where p f xs ≡ xs) → cond b (f x) x ∷ update_where p f xs ≡ x ∷ xs
      go true bad more = absurd cc
      go false rest more = ap (λ l. x ∷ l) (more rest)

  none_deleted : (xs : List E) → filter p xs ≡ [] → delete_where p xs ≡ xs
  none_deleted [] none = refl
  none_deleted (x ∷ xs) none = go (p x) none (none_deleted xs)
    where
      go : (b : Bool) → cond b (x ∷ filter p xs) (filter p xs) ≡ [] → (filter p xs ≡ [] → delete_where p xs ≡ xs) → cond (not b) (x ∷ delete_where p xs) (delete_where p xs) ≡ x ∷ xs
      go true bad more = absurd cc
      go false rest more = ap (λ l. x ∷ l) (more rest)

greater : (a b : ℤ) → a <ℤ b → int_cmp b a ≡ Greater
greater a b less = grind (arith, ints)

module _ {E : Type 0} (id : E → ℤ) (p : E → Bool) (f : E → E) (keeps : (e : E) → id (f e) ≡ id e) where
  before_all : (e : E) (xs : List E) → AllByRecursion (λ y. id e <ℤ id y) xs → insert_by id xs e ≡ e ∷ xs
  before_all e [] above = refl
  before_all e (x ∷ xs) above = ap (λ o. match_ordering o (x ∷ insert_by id xs e) (e ∷ xs) (e ∷ x ∷ xs)) (greater (id e) (id x) above.0)

  -- the one row that passes is taken out and put in again
  pub one_updated : (e : E) (xs : List E) → IsKeyedBy id xs → filter p xs ≡ e ∷ [] → insert_by id (delete_where p xs) (f e) ≡ update_where p f xs
  one_updated e [] up one = absurd cc
  one_updated e (x ∷ xs) up one = go (p x) one (one_updated e xs up.1)
    where
      go : (b : Bool) → cond b (x ∷ filter p xs) (filter p xs) ≡ e ∷ [] → (filter p xs ≡ e ∷ [] → insert_by id (delete_where p xs) (f e) ≡ update_where p f xs)
          → insert_by id (cond (not b) (x ∷ delete_where p xs) (delete_where p xs)) (f e) ≡ cond b (f x) x ∷ update_where p f xs
      go true is more =
          let here : x ≡ e = cc in
          let none : filter p xs ≡ [] = cc in
          let low : id (f e) ≡ id x = keeps e ∙ ap id (sym here) in
          let above = all_weaker (λ y. id x <ℤ id y) (λ y. id (f e) <ℤ id y) (λ y h. subst (λ n. n <ℤ id y) (sym low) h) xs up.0 in
          ap (λ l. insert_by id l (f e)) (none_deleted p xs none) ∙ before_all (f e) xs above ∙ ap₂ (λ y l. f y ∷ l) (sym here) (sym (none_updated p f xs none))
      go false rest more =
          let above : id x <ℤ id e = (subst (AllByRecursion (λ y. id x <ℤ id y)) rest (all-filter (λ y. id x <ℤ id y) p xs up.0)).0 in
          ap (λ o. match_ordering o (x ∷ insert_by id (delete_where p xs) (f e)) (f e ∷ delete_where p xs) (f e ∷ x ∷ delete_where p xs)) (Less-from_lt (id x) (id (f e)) (subst (λ n. id x <ℤ n) (sym (keeps e)) above))
          ∙ ap (λ l. x ∷ l) (more rest)

-- rows that have their rowids keep them
pub numbered_given : (news rows : List Row) → numbered Given rows news ≡ news
numbered_given [] rows = refl
numbered_given (r ∷ rs) rows = ap (λ l. r ∷ l) (numbered_given rs _)

-- ---- a list in the order of its keys

module _ {X : Type 0} (key : X → ℕ) (n : ℕ) (becomes : X → X) where
  -- what the row is then
  abbrev pub turned : X → X
  turned x = cond (key x == n) (becomes x) x

  pub values_turned : (p : ℤ × X → Bool) (es : List (ℤ × X)) → AllByRecursion (λ (e : ℤ × X). p e ≡ (key e.1 == n)) es
      → map (λ (e : ℤ × X). e.1) (update_where p (λ (e : ℤ × X). (e.0, becomes e.1)) es) ≡ map turned (map (λ (e : ℤ × X). e.1) es)
  values_turned p [] h = refl
  values_turned p (e ∷ es) h = ap₂ (λ x l. x ∷ l) (go (p e) (key e.1 == n) h.0) (values_turned p es h.1)
    where
      go : (a b : Bool) → a ≡ b → (cond a (e.0, becomes e.1) e).1 ≡ cond b (becomes e.1) e.1
      go true true same = refl
      go false false same = refl
      go true false same = absurd cc
      go false true same = absurd cc

  pub all_turned : (P : X → Type 0) → ((x : X) → P x → P (becomes x)) → (xs : List X) → AllByRecursion P xs → AllByRecursion P (map turned xs)
  all_turned P still [] h = tt
  all_turned P still (x ∷ xs) h = (elim (key x == n) as (λ b. P (cond b (becomes x) x)) [ true ↦ still x h.0 | false ↦ h.0 ], all_turned P still xs h.1)

  module _ (same_key : (x : X) → (key x == n) ≡ true → key (becomes x) ≡ key x) where
    key_kept : (x : X) → key (turned x) ≡ key x
    key_kept x = go (key x == n) refl
      where
        go : (b : Bool) → (key x == n) ≡ b → key (cond b (becomes x) x) ≡ key x
        go true e = same_key x e
        go false e = refl

    above_turned : (m : ℕ) (xs : List X) → AllAbove key m xs → AllAbove key m (map turned xs)
    above_turned m [] h = tt
    above_turned m (x ∷ xs) h = (subst (λ k. m < k) (sym (key_kept x)) h.0, above_turned m xs h.1)

    pub rises_turned : (xs : List X) → Rises key xs → Rises key (map turned xs)
    rises_turned [] h = tt
    rises_turned (x ∷ xs) h = (subst (λ k. AllAbove key k (map turned xs)) (sym (key_kept x)) (above_turned (key x) xs h.0), rises_turned xs h.1)

-- ---- a row that comes

module _ {X : Type 0} (key : X → ℕ) (x : X) where
  abbrev pub turns : X → X
  turns = turned key (key x) (λ y. x)

  abbrev pub mine : X → Bool
  mine = has key (key x)

  -- where no row has its key
  pub none_there : (xs : List X) → length (filter mine xs) ≡ 0 → (map turns xs ≡ xs) × (without key (key x) xs ≡ xs)
  none_there [] none = (refl, refl)
  none_there (y ∷ ys) none = go (key y == key x) none (none_there ys)
    where
      go : (b : Bool) → length (cond b (y ∷ filter mine ys) (filter mine ys)) ≡ 0 → (length (filter mine ys) ≡ 0 → (map turns ys ≡ ys) × (without key (key x) ys ≡ ys))
          → (cond b x y ∷ map turns ys ≡ y ∷ ys) × (cond b (without key (key x) ys) (y ∷ without key (key x) ys) ≡ y ∷ ys)
      go true bad more = absurd (omega (arith, bad))
      go false rest more = let later = more rest in (ap (λ l. y ∷ l) later.0, ap (λ l. y ∷ l) later.1)

  inserted_first : (ys : List X) → AllAbove key (key x) ys → insert key x ys ≡ x ∷ ys
  inserted_first [] h = refl
  inserted_first (y ∷ ys) h = insert_here key x y ys h.0

  -- and where one has it
  pub one_there : (xs : List X) → Rises key xs → 0 < length (filter mine xs) → map turns xs ≡ put key x xs
  one_there [] h some = absurd (omega (arith, some))
  one_there (y ∷ ys) h some = go (key y == key x) refl some (one_there ys h.1)
    where
      equal : (a b : ℕ) → (a == b) ≡ true → a ≡ b
      equal a b e = grind (arith, nat_tests, e)

      none : (m : ℕ) → AllAbove key m ys → key x ≤ m → length (filter mine ys) ≡ 0
      none m above low = ap (λ (l : List X). length l) (none_above key (key x) ys (above_lower key (key x) m ys low above))

      behind : (b : Bool) → nat_lt (key x) (key y) ≡ b → 0 < length (filter mine ys) → (0 < length (filter mine ys) → map turns ys ≡ put key x ys)
          → y ∷ map turns ys ≡ cond b (x ∷ y ∷ without key (key x) ys) (y ∷ insert key x (without key (key x) ys))
      behind true low rest more = absurd (let at = none (key y) h.0 (lower (key x) (key y) low) in omega (arith, rest, at))
        where
          lower : (a b : ℕ) → nat_lt a b ≡ true → a ≤ b
          lower a b e = grind (arith, nat_tests, e)
      behind false high rest more = ap (λ l. y ∷ l) (more rest)

      go : (b : Bool) → (key y == key x) ≡ b → 0 < length (cond b (y ∷ filter mine ys) (filter mine ys)) → (0 < length (filter mine ys) → map turns ys ≡ put key x ys)
          → cond b x y ∷ map turns ys ≡ insert key x (cond b (without key (key x) ys) (y ∷ without key (key x) ys))
      go true e rest more =
          let at = equal (key y) (key x) e in
          let others = none_there ys (none (key y) h.0 (omega (arith, at))) in
          ap (λ l. x ∷ l) others.0 ∙ sym (inserted_first ys (subst (λ k. AllAbove key k ys) at h.0)) ∙ ap (insert key x) (sym others.1)
      go false e rest more = behind (nat_lt (key x) (key y)) refl rest more

-- What is known of rows that are read one at a time.
use Rattle.std.proofs.Common.{◌≡◌, ◌⊎◌, inl, inr, ℕ, List, [], ◌∷◌, ◌++◌, map, IsTrue, Ok, refl, sym, ◌∙◌, ap, ap₂, subst, arith}
use Rattle.std.specs.List.{AllByRecursion}
use Rattle.sqlite.specs.Effect.{Database}
use Rattle.sqlite.specs.Order.{Row}
use Rattle.sqlite.specs.Schema.{Schema}
use Rattle.sqlite.specs.Tree.{Trees}
use Rattle.sqlite.specs.Clock.{timed}
use Rattle.sqlite.specs.Listing.{IsSourceOf, reads_listing, understood}
use Rattle.sqlite.specs.State.{State, HasCleanDisk, IsRolledBack, IsUnchanged, Survives, Begins, CommitsShowing, Shown, ShowsRows}
use Rattle.sqlite.proofs.Callers.{EndsIn, IsPlain, begins_shown, command_of, never_commits, unchanged_then}
use Rattle.sqlite.proofs.StateLemmas.{survives_then, survives_weaker}
use Rattle.sms_store_sql.specs.listing.Inside.{SparesOwn, StaysOutside}
use Rattle.sms_store_sql.specs.listing.Listing.{IsList, ListOf, Represents}
use Rattle.sms_store_sql.proofs.listing.Found.{finds}

-- ---- a stop

-- a text that only reads leaves nothing new
pub spares_own : (sql : List ℕ) (schema : Schema) (old new : State) → IsPlain (understood schema sql) → Survives old new (CommitsShowing sql [] old) → SparesOwn schema old new
spares_own sql schema old new plain =
    survives_weaker old new _ _ (λ _ db commits ours. never_commits sql [] old db (subst (λ s. IsPlain (understood s sql)) (sym ours) plain) commits)

pub spares_all : (schema : Schema) (old new : State) → Survives old new (λ _. ⊥) → SparesOwn schema old new
spares_all schema old new = survives_weaker old new _ _ (λ _ db none ours. none)

pub spares_then : (schema : Schema) (old mid new : State) → (HasCleanDisk mid → old.now.schema ≡ schema → mid.now.schema ≡ schema) → SparesOwn schema old mid → SparesOwn schema mid new
    → SparesOwn schema old new
spares_then schema old mid new same p q =
    survives_then old mid new _ _ _ (λ _ db none. none) (λ clean db none ours. none (same (omega (arith, clean, q.clean)) ours)) p q

-- ---- a query that fails

pub stays_if : (old new : State) → IsUnchanged old new ⊎ IsRolledBack old new → StaysOutside old new
stays_if old new (inl h) = record { was_open = λ live. h.0.was_open; same = λ settled live. (h.0.now_is, h.0.committed_is) }
stays_if old new (inr h) = record { was_open = h.was_open; same = λ settled live. let back = h.undone live in (back.0 ∙ sym settled, back.1) }

pub stays_unchanged : (old now new : State) → IsUnchanged old now → StaysOutside now new → StaysOutside old new
stays_unchanged old now new same it = record {
  was_open = λ live. same.0.was_open;
  same = λ settled live. let s = it.same (same.0.now_is ∙ settled ∙ sym same.0.committed_is) live in (s.0 ∙ same.0.now_is, s.1 ∙ same.0.committed_is);
}

-- ---- a row that is not read

unchanged_here : (s : State) → IsTrue s.is_open → IsUnchanged s s
unchanged_here s live = (record { was_open = live; is_open = live; now_is = refl; committed_is = refl; mode = refl }, record { changes = refl; last_rowid = refl }, refl)

seen_behind : {X R : Type 0} (write : X → R) (P : X → Type 0) (front : List R) (r : R) (tail : List R) (seen : List X) → (front ++ r ∷ []) ++ tail ≡ map write seen → AllByRecursion P seen
    → (s : X) × P s × (r ≡ write s)
seen_behind write P [] r tail [] e fit = absurd cc
seen_behind write P [] r tail (s ∷ ss) e fit = (s, fit.0, let same : r ≡ write s = cc in same)
seen_behind write P (f ∷ front) r tail [] e fit = absurd cc
seen_behind write P (f ∷ front) r tail (s ∷ ss) e fit = seen_behind write P front r tail ss (let rest : (front ++ r ∷ []) ++ tail ≡ map write ss = cc in rest) fit.1

-- one more is read
pub read_more : {X R : Type 0} (read : R → X) (rows : List R) (row : R) → map read rows ++ read row ∷ [] ≡ map read (rows ++ row ∷ [])
read_more read [] row = refl
read_more read (r ∷ rs) row = ap (λ xs. read r ∷ xs) (read_more read rs row)

module _ {X : Type 0} (l : ListOf X) (is : IsList l) where
  pub reads_all : (xs : List X) → AllByRecursion l.Fits xs → map l.reads (map l.columns xs) ≡ xs
  reads_all [] fit = refl
  reads_all (x ∷ xs) fit = ap₂ (λ y ys. y ∷ ys) (is.reads_back x fit.0) (reads_all xs fit.1)

  -- each row that is given is one of the list's
  pub row_given : (old now : State) (given : List Row) (row : Row) → old.now.schema ≡ l.table.schema → IsUnchanged old now → Begins l.table.select [] now (given ++ row ∷ [])
      → (xs : List X) → Represents l (old.now.trees l.table.tree) xs → (x : X) × l.Fits x × (row ≡ l.columns x)
  row_given old now given row ours same begins xs held =
      let ours_now : now.now.schema ≡ l.table.schema = ap (λ (db : Database). db.schema) same.0.now_is ∙ ours in
      let held_now = subst (λ (db : Database). Represents l (db.trees l.table.tree) xs) (sym same.0.now_is) held in
      let whole = begins_shown l.table.select [] now now (given ++ row ∷ []) begins (unchanged_here now same.0.is_open)
      (λ c db it source.
      let known = ap command_of (sym it.is ∙ ap (λ s. understood s l.table.select) ours_now) ∙ is.selects in
      subst (λ k. EndsIn k db (timed [] c.formats it.now)) (sym known) tt) in
      let found = finds l is now now ((given ++ row ∷ []) ++ whole.0) ours_now whole.1 xs held_now in
      seen_behind l.columns l.Fits given row whole.0 found.0 found.1 found.3

-- ---- the end of the rows

-- what is shown of a database that did not change since
pub shown_since : (sql : List ℕ) (params : Row) (old now new : State) (rows : List Row) → IsPlain (understood now.now.schema sql) → IsUnchanged old now → Shown sql params now new rows → Shown sql params old new rows
unfolding Shown
shown_since sql params old now new rows plain same h =
    let none = (subst IsPlain h.1.is plain).0 in
    let full = timed params h.0.formats h.1.now in
    let it = subst (ShowsRows now new sql h.0 full rows) none h.2 in (
      h.0,
      record { is = subst (λ (db : Database). understood db.schema sql ≡ Ok h.0) same.0.now_is h.1.is; whole = h.1.whole; given = h.1.given; now = h.1.now },
      subst (ShowsRows old new sql h.0 full rows) (sym none)
          (it.0, subst (λ (db : Database). IsSourceOf (reads_listing db.schema sql) db it.0) same.0.now_is it.1, it.2, unchanged_then old now new same it.3),
    )

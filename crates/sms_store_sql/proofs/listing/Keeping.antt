-- What a keep owes follows from what a transaction does.
use Rattle.std.proofs.Common.{◌≡◌, ◌⊎◌, inl, inr, false, true, Bool, IsTrue, refl, sym, ap, subst, ◌∙◌}
use Rattle.sqlite.specs.Tree.{Trees}
use Rattle.sqlite.specs.Effect.{Database}
use Rattle.sqlite.specs.State.{State}
use Rattle.sms_store_sql.specs.listing.Transaction.{Committed, Leaves, IsOpenStore, MayLeave, IsOfOne}

module _ {R : Type 0} (Is : Database → R → Type 0) (once : IsOfOne Is) where
  -- a change that turns a store of these rows into one of those
  pub committed_keeps : (Change : Database → Database → Type 0) (after : R → R) → ((a b : Database) (rows : R) → Change a b → Is a rows → Is b (after rows))
      → (old new : State) (rows : R) → IsOpenStore Is old rows → Committed Change old new → IsOpenStore Is new (after rows)
  committed_keeps Change after turns old new rows kept made = record {
    is_open = made.inside.is_open;
    autocommit = made.inside.mode;
    settled = sym made.inside.committed_is;
    store = turns _ _ rows made.changed kept.store;
  }

  -- a stop inside the transaction leaves the rows before it, or those after it
  pub stop_leaves : (Change : Database → Database → Type 0) (after : R → R) → ((a b : Database) (rows : R) → Change a b → Is a rows → Is b (after rows))
      → (old new : State) (rows left : R) → IsOpenStore Is old rows → ((db : Trees) → IsTrue old.is_open → old.may_leave db → db ≡ old.committed.trees)
      → ((db : Trees) → new.may_leave db → old.may_leave db ⊎ (IsTrue old.is_open → Leaves Change old db))
      → MayLeave Is new left → (left ≡ rows) ⊎ (left ≡ after rows)
  stop_leaves Change after turns old new rows left kept settled leaves may = elim (leaves may.db.trees may.left) [
    | inl earlier ↦ inl (once may.db old.now left rows (settled may.db.trees kept.is_open earlier ∙ sym (ap (λ (d : Database). d.trees) kept.settled)) may.store kept.store)
    | inr made ↦ let after_it = made kept.is_open in inr (once may.db after_it.0 left (after rows) after_it.1 may.store (turns _ _ rows after_it.2 kept.store))
  ]

  -- and one inside a transaction that only reads leaves the rows
  pub stop_keeps : (old new : State) (rows left : R) → IsOpenStore Is old rows → ((db : Trees) → IsTrue old.is_open → old.may_leave db → db ≡ old.committed.trees)
      → ((db : Trees) → new.may_leave db → old.may_leave db ⊎ (db ≡ old.now.trees)) → MayLeave Is new left → left ≡ rows
  stop_keeps old new rows left kept settled leaves may = elim (leaves may.db.trees may.left) [
    | inl earlier ↦ once may.db old.now left rows (settled may.db.trees kept.is_open earlier ∙ sym (ap (λ (d : Database). d.trees) kept.settled)) may.store kept.store
    | inr same ↦ once may.db old.now left rows same may.store kept.store
  ]

-- a failure leaves the rows, or a keep that is closed
pub failure_keeps : {R : Type 0} (Is : Database → R → Type 0) (old new : State) (rows : R) → IsOpenStore Is old rows → (old.in_transaction ≡ false → new.in_transaction ≡ false)
    → (IsTrue new.is_open → (new.now ≡ old.now) × (new.committed ≡ old.committed)) → IsOpenStore Is new rows ⊎ (new.is_open ≡ false)
failure_keeps Is old new rows kept mode same = go new.is_open refl
  where
    go : (b : Bool) → new.is_open ≡ b → IsOpenStore Is new rows ⊎ (new.is_open ≡ false)
    go false e = inr e
    go true e = inl (record {
      is_open = e;
      autocommit = mode kept.autocommit;
      settled = (same e).0 ∙ kept.settled ∙ sym (same e).1;
      store = subst (λ db. Is db rows) (sym (same e).0) kept.store;
    })

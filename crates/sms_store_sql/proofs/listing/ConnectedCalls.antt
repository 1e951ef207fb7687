-- One call of a keep: the connection is asked, and then used.
use Rattle.std.proofs.Common.{◌≡◌, ◌⊎◌, inl, inr, false, true, Bool, IsTrue, refl, sym, ap, subst, ◌∙◌, arith}
use Rattle.sqlite.proofs.StateLemmas.{survives_then, survives_weaker}
use Rattle.sqlite.specs.Effect.{Database}
use Rattle.sqlite.specs.State.{State, HasCleanDisk, Shows, Survives}
use Rattle.sqlite.specs.Schema.{Schema}
use Rattle.sqlite.specs.Tree.{Trees}
use Rattle.sms_rows.specs.declared.keep.error.KeepError.{KeepError}
use Rattle.sms_rows.specs.declared.keep.error.KeepError.TheVariants.{OldVersion, NotThisStore, Disk, Full, NoMemory, Interrupted, Closed}
use Rattle.sms_store_sql.specs.declared.listing.closing.Health.{Health}
use Rattle.sms_store_sql.specs.declared.listing.closing.Health.TheVariants.{InDoubt}
use Rattle.sms_store_sql.specs.listing.Closing.{AreOf, IsAsItWas, IsShut, LeavesEither, Rested, Rests, health_after}
use Rattle.sms_store_sql.specs.listing.Transaction.{Committed, IsOpenStore, IsOfOne, Leaves, MayLeave}

-- nothing was called
pub survives_none : (s : State) (P : Trees → Type 0) → Survives s s P
survives_none s P = record { clean = omega arith; shield = λ h. h; counts = omega arith; limit = refl; closes = λ _ live. inl live; crash = λ _ db may. inl may }

pub rested_none : (s : State) → Rested s s
rested_none s = record { was_open = λ live. live; is_open = λ live. live; now_is = refl; settled = λ _. refl; mode = λ outside. outside }

-- the connection was asked
pub rested_asked : (old new : State) → Committed Rests old new → Rested old new
rested_asked old new made = record {
  was_open = λ _. made.inside.was_open;
  is_open = λ _. made.inside.is_open;
  now_is = made.changed;
  settled = λ settled. made.inside.committed_is ∙ made.changed ∙ settled;
  mode = λ _. made.inside.mode;
}

asked_leaves : (old : State) (trees : Trees) → (IsTrue old.is_open → Leaves Rests old trees) → IsTrue old.is_open → trees ≡ old.now.trees
asked_leaves old trees leaves live = let it = leaves live in subst (λ (db : Database). trees ≡ db.trees) it.2 it.1

pub survives_asked : (old new : State) → Survives old new (λ trees. IsTrue old.is_open → Leaves Rests old trees) → Survives old new (λ trees. IsTrue old.is_open → trees ≡ old.now.trees)
survives_asked old new = survives_weaker old new _ _ (λ _ trees leaves. asked_leaves old trees leaves)

-- a connection that is closed does not answer
pub shut_refuses : (h : Health) (old new : State) → h ≡ InDoubt → IsShut h old → Committed Rests old new → ⊥
shut_refuses h old new doubt shut made =
    let closed = subst (λ (x : Health). IsShut x old) doubt shut in
    let e : false ≡ true = sym closed ∙ made.inside.was_open in
    cc

-- then a change was made
pub committed_then : (Change : Database → Database → Type 0) (old mid new : State) → Rested old mid → Committed Change mid new → Committed Change old new
committed_then Change old mid new rest made = record {
  inside = record { was_open = rest.was_open made.inside.was_open; is_open = made.inside.is_open; now_is = made.inside.now_is; committed_is = made.inside.committed_is; mode = made.inside.mode };
  changed = subst (λ (db : Database). Change db new.now) rest.now_is made.changed;
}

-- or refused
pub spared_then : (old mid new : State) → Rested old mid → (IsTrue new.is_open → (new.now ≡ mid.now) × (new.committed ≡ mid.committed)) → IsAsItWas old new
spared_then old mid new rest same settled live = let it = same live in (it.0 ∙ rest.now_is, it.1 ∙ rest.settled settled)

-- or the database was looked at
pub shown_then : (old mid new : State) → Rested old mid → Shows mid new mid.now mid.now false → Shows old new old.now old.now false
shown_then old mid new rest shows = record {
  was_open = rest.was_open shows.was_open;
  is_open = shows.is_open;
  now_is = shows.now_is ∙ rest.now_is;
  committed_is = shows.committed_is ∙ rest.now_is;
  mode = shows.mode;
}

module _ (Change : Database → Database → Type 0) (old mid new : State) where
  -- a stop as the connection is asked
  pub survives_refused : Survives old new (λ trees. IsTrue old.is_open → trees ≡ old.now.trees) → Survives old new (λ trees. IsTrue old.is_open → LeavesEither Change old trees)
  survives_refused = survives_weaker old new _ _ (λ _ trees same live. inl (same live))

  -- or in the change
  pub survives_change : (HasCleanDisk new → Rested old mid) → Survives old mid (λ trees. IsTrue old.is_open → trees ≡ old.now.trees)
      → Survives mid new (λ trees. IsTrue mid.is_open → Leaves Change mid trees) → Survives old new (λ trees. IsTrue old.is_open → LeavesEither Change old trees)
  survives_change rest = survives_then old mid new _ _ _ (λ _ trees same live. inl (same live))
      (λ clean trees leaves live. let it = leaves ((rest clean).is_open live) in inr (it.0, it.1, subst (λ (db : Database). Change db it.0) (rest clean).now_is it.2))

-- or read
pub schema_then : (schema : Schema) (old mid : State) → Rested old mid → old.now.schema ≡ schema → mid.now.schema ≡ schema
schema_then schema old mid rest ours = ap (λ (db : Database). db.schema) rest.now_is ∙ ours

pub looked_then : {F : Type 0} (Finds : Database → F → Type 0) (old mid new : State) (found : F) → Rested old mid → Shows mid new mid.now mid.now false × Finds mid.now found → Shows old new old.now old.now false × Finds old.now found
looked_then Finds old mid new found rest h = (shown_then old mid new rest h.0, subst (λ (db : Database). Finds db found) rest.now_is h.1)

-- a stop in such a call
pub survives_unlooked : (schema : Schema) (old new : State) → Survives old new (λ trees. IsTrue old.is_open → trees ≡ old.now.trees)
    → Survives old new (λ trees. IsTrue old.is_open → old.now.schema ≡ schema → trees ≡ old.now.trees)
survives_unlooked schema old new = survives_weaker old new _ _ (λ _ trees same live ours. same live)

pub survives_look : (schema : Schema) (old mid new : State) → (HasCleanDisk new → Rested old mid) → Survives old mid (λ trees. IsTrue old.is_open → trees ≡ old.now.trees)
    → Survives mid new (λ trees. mid.now.schema ≡ schema → trees ≡ mid.now.trees) → Survives old new (λ trees. IsTrue old.is_open → old.now.schema ≡ schema → trees ≡ old.now.trees)
survives_look schema old mid new rest = survives_then old mid new _ _ _ (λ _ trees same live ours. same live)
    (λ clean trees same live ours. same (schema_then schema old mid (rest clean) ours) ∙ ap (λ (db : Database). db.trees) (rest clean).now_is)

-- a refusal by a connection that is closed closes the keep
pub shut_after : (e : KeepError) (s : State) → s.is_open ≡ false → IsShut (health_after e) s
shut_after OldVersion s shut = shut
shut_after NotThisStore s shut = shut
shut_after Disk s shut = shut
shut_after Full s shut = shut
shut_after NoMemory s shut = shut
shut_after Interrupted s shut = shut
shut_after Closed s shut = tt

-- ---- what a keep owes

module _ {R : Type 0} (Is : Database → R → Type 0) where
  -- a stop leaves the store of the rows before the call, or of those after it
  pub stop_on_disk : (Change : Database → Database → Type 0) (after : R → R) → ((a b : Database) (rows : R) → Change a b → Is a rows → Is b (after rows))
      → (old new : State) (rows : R) → IsOpenStore Is old rows → ((db : Trees) → IsTrue old.is_open → old.may_leave db → db ≡ old.committed.trees)
      → ((db : Trees) → new.may_leave db → old.may_leave db ⊎ (IsTrue old.is_open → LeavesEither Change old db))
      → (left : Trees) → new.may_leave left → AreOf Is left rows ⊎ AreOf Is left (after rows)
  stop_on_disk Change after turns old new rows kept settled leaves left may = elim (leaves left may) [
    | inl earlier ↦ inl (record { db = old.now; same = settled left kept.is_open earlier ∙ sym (ap (λ (d : Database). d.trees) kept.settled); store = kept.store })
    | inr either ↦ elim (either kept.is_open) [
      | inl same ↦ inl (record { db = old.now; same = same; store = kept.store })
      | inr made ↦ inr (record { db = made.0; same = made.1; store = turns old.now made.0 rows made.2 kept.store })
    ]
  ]

  -- and one in a call that only reads leaves the store of the rows
  pub look_on_disk : (old new : State) (rows : R) → IsOpenStore Is old rows → ((db : Trees) → IsTrue old.is_open → old.may_leave db → db ≡ old.committed.trees)
      → ((db : Trees) → new.may_leave db → old.may_leave db ⊎ (db ≡ old.now.trees)) → (left : Trees) → new.may_leave left → AreOf Is left rows
  look_on_disk old new rows kept settled leaves left may = elim (leaves left may) [
    | inl earlier ↦ record { db = old.now; same = settled left kept.is_open earlier ∙ sym (ap (λ (d : Database). d.trees) kept.settled); store = kept.store }
    | inr same ↦ record { db = old.now; same = same; store = kept.store }
  ]

  -- so where a store is left, it is one of them
  pub stop_rows : IsOfOne Is → (new : State) (rows after left : R) → ((db : Trees) → new.may_leave db → AreOf Is db rows ⊎ AreOf Is db after) → MayLeave Is new left → (left ≡ rows) ⊎ (left ≡ after)
  stop_rows once new rows after left leaves may = elim (leaves may.db.trees may.left) [
    | inl it ↦ inl (once may.db it.db left rows it.same may.store it.store)
    | inr it ↦ inr (once may.db it.db left after it.same may.store it.store)
  ]

  pub look_rows : IsOfOne Is → (new : State) (rows left : R) → ((db : Trees) → new.may_leave db → AreOf Is db rows) → MayLeave Is new left → left ≡ rows
  look_rows once new rows left leaves may = let it = leaves may.db.trees may.left in once may.db it.db left rows it.same may.store it.store

  -- a refusal leaves the rows, or a keep that is closed
  pub refusal_keeps : (e : KeepError) (h : Health) (old new : State) (rows : R) → h ≡ health_after e → IsOpenStore Is old rows → (old.in_transaction ≡ false → new.in_transaction ≡ false)
      → IsAsItWas old new → IsOpenStore Is new rows ⊎ IsShut h new
  refusal_keeps e h old new rows is kept mode same = go new.is_open refl
    where
      go : (b : Bool) → new.is_open ≡ b → IsOpenStore Is new rows ⊎ IsShut h new
      go false shut = inr (subst (λ (h : Health). IsShut h new) (sym is) (shut_after e new shut))
      go true live = let it = same kept.settled live in inl (record {
        is_open = live;
        autocommit = mode kept.autocommit;
        settled = it.0 ∙ kept.settled ∙ sym it.1;
        store = subst (λ (db : Database). Is db rows) (sym it.0) kept.store;
      })

-- What a stop, or a refusal, leaves of a store of an earlier version that was to be raised.
use Rattle.std.proofs.Common.{◌≡◌, ◌⊎◌, inl, inr, false, IsTrue, Result, Ok, Err, OnErr, IfErr, sym, subst, ◌∙◌}
use Rattle.sqlite.specs.Effect.{Database}
use Rattle.sqlite.specs.State.{State, Shows}
use Rattle.sqlite.specs.Tree.{Trees}
use Rattle.sms_store_sql.specs.listing.Transaction.{IsOpenStore}
use Rattle.sms_store_tables.specs.centre.CentreSchema.{first_schema, second_schema}
use Rattle.sms_store_migration.specs.Migrating.{migrated}
use Rattle.sms_store_migration.specs.Versions.{AreStore, IsFirstStore, IsSecondStore}
use Rattle.sms_store.specs.keeping.Opened.{IsAsItWas, IsLeft}
use Rattle.sms_store.specs.centre.CentreRows.{IsEarlier, centre_stores}
use Rattle.sms_store.specs.centre.Migrating.{Migrated}
use Rattle.sms_store.specs.centre.Stopping.{LeavesRaised}
use Rattle.sms_store.specs.centre.Types.{Rows, Setup}
use Rattle.sms_store.specs.centre.Lawful.{first_differs, second_differs}
use Rattle.sms_store.proofs.centre.Schemas.{earlier_apart, schemas_differ, second_apart}
use Rattle.sms_store.proofs.keeping.Leaving.{Settles, trees_of}

-- the store was looked at, and then raised
module _ (old middle : State) (left : Trees) (shows : Shows old middle old.now old.now false) where
  between : {Is : Database → Rows → Type 0} (rows : Rows) → IsOpenStore Is old rows → IsOpenStore Is middle rows
  between {Is = Is} rows kept = record { is_open = shows.is_open; autocommit = shows.mode; settled = shows.now_is ∙ sym shows.committed_is; store = subst (λ (db : Database). Is db rows) (sym shows.now_is) kept.store }

  abbrev Left : Rows → Type 0
  Left rows = (left ≡ old.now.trees) ⊎ AreStore left rows

  left_so : (rows : Rows) → (left ≡ middle.now.trees) ⊎ AreStore left rows → Left rows
  left_so rows (inl same) = inl (same ∙ trees_of _ _ shows.now_is)
  left_so rows (inr made) = inr made

  open_with : {Is Of : Database → Rows → Type 0} (rows others : Rows) → IsOpenStore Is old rows → Of old.now others → IsOpenStore Of old others
  open_with rows others kept is = record { is_open = kept.is_open; autocommit = kept.autocommit; settled = kept.settled; store = is }

  pub left_by_raise : old.now.schema ≡ first_schema
      → ((rows : Rows) → IsOpenStore IsFirstStore middle rows → (left ≡ middle.now.trees) ⊎ AreStore left (migrated rows)) → IsLeft centre_stores old left
  left_by_raise ours raised = record {
    current = λ rows kept. absurd (schemas_differ (sym kept.store.schema ∙ ours));
    earlier = λ rows kept. of rows kept kept.store;
    blank = λ setup kept. absurd (first_differs (sym kept.store ∙ ours));
  }
    where
      of : (rows : Rows) → IsOpenStore IsEarlier old rows → IsEarlier old.now rows → Left rows
      of rows kept (inl first) =
          subst Left (sym first.1.1) (left_so (migrated first.0) (raised first.0 (between {Is = IsFirstStore} first.0 (open_with {Is = IsEarlier} {Of = IsFirstStore} rows first.0 kept first.1.0))))
      of rows kept (inr second) = absurd (earlier_apart (sym second.schema ∙ ours))

  pub left_by_raise_second : old.now.schema ≡ second_schema
      → ((rows : Rows) → IsOpenStore IsSecondStore middle rows → (left ≡ middle.now.trees) ⊎ AreStore left rows) → IsLeft centre_stores old left
  left_by_raise_second ours raised = record {
    current = λ rows kept. absurd (second_apart (sym kept.store.schema ∙ ours));
    earlier = λ rows kept. of rows kept kept.store;
    blank = λ setup kept. absurd (second_differs (sym kept.store ∙ ours));
  }
    where
      of : (rows : Rows) → IsOpenStore IsEarlier old rows → IsEarlier old.now rows → Left rows
      of rows kept (inl first) = absurd (earlier_apart (sym ours ∙ first.1.0.schema))
      of rows kept (inr second) =
          left_so rows (raised rows (between {Is = IsSecondStore} rows (open_with {Is = IsEarlier} {Of = IsSecondStore} rows rows kept second)))

-- a refusal behind a look
pub unraised : {X E : Type 0} {P Q : E → Type 0} (old middle new : State) (r : Result X E) → Shows old middle old.now old.now false → ((e : E) → P e → Q e) → IfErr r P
    → (IsTrue new.is_open → OnErr r ((new.now ≡ middle.now) × (new.committed ≡ middle.committed))) → IfErr r (λ e. Q e × IsAsItWas old new)
unraised old middle new (Ok x) shows f named same = tt
unraised old middle new (Err e) shows f named same = (f e named, λ settled is_open. ((same is_open).0 ∙ shows.now_is, (same is_open).1 ∙ shows.committed_is ∙ settled))

-- a refusal that changed nothing
pub refused_as_it_was : {X E : Type 0} (old new : State) (r : Result X E) → (IsTrue new.is_open → OnErr r ((new.now ≡ old.now) × (new.committed ≡ old.committed))) → OnErr r (IsAsItWas old new)
refused_as_it_was old new (Ok x) same = tt
refused_as_it_was old new (Err e) same = λ settled is_open. same is_open

-- the keep is there
pub leaves_raised : (setup : Setup) (old : Database) (new : State) → Settles new → Migrated setup old new → LeavesRaised setup old new
leaves_raised setup old new settles moved = record {
  first = λ rows is left may.
      let kept = moved.raised rows is in
      (settles left kept.is_open may ∙ sym (trees_of _ _ kept.settled), kept.store.0);
  second = λ rows is left may.
      let kept = moved.raised_second rows is in
      (settles left kept.is_open may ∙ sym (trees_of _ _ kept.settled), kept.store.0);
}

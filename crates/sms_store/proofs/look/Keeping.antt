-- A keep with a setup keeps the rows of a store.
use Rattle.std.proofs.Common.{◌≡◌, sym, subst}
use Rattle.sqlite.specs.State.{State}
use Rattle.sms_store_sql.specs.listing.Transaction.{IsOpenStore}
use Rattle.sms_store_migration.specs.Versions.{IsStore}
use Rattle.sms_store.specs.keeping.Stores.{IsStoreWith}
use Rattle.sms_store.specs.centre.CentreRows.{centre_stores}
use Rattle.sms_store.specs.centre.Types.{Rows, Setup}

pub still : (setup : Setup) (s : State) (rows : Rows) → IsOpenStore (IsStoreWith centre_stores setup) s rows → IsOpenStore IsStore s rows
still setup s rows h = record { is_open = h.is_open; autocommit = h.autocommit; settled = h.settled; store = h.store.0 }

pub with_setup : (mine theirs : Setup) (s : State) (rows : Rows) → mine ≡ theirs → IsOpenStore (IsStoreWith centre_stores theirs) s rows → IsOpenStore (IsStoreWith centre_stores mine) s rows
with_setup mine theirs s rows e h = let P : Setup → Type 0 = λ setup. IsOpenStore (IsStoreWith centre_stores setup) s rows in subst P (sym e) h

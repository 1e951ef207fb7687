-- What a store is to one who opens it, by what it says of itself.
use Rattle.std.specs.Prelude.{ℕ, nat_lt, if◌then◌else◌, Bool, true, false, List, [], ◌∷◌, Result, Ok, Err}
use Rattle.sms_rows.specs.declared.keep.error.KeepError.{KeepError}
use Rattle.sms_rows.specs.declared.keep.error.KeepError.TheVariants.{NotThisStore, OldVersion}
use Rattle.sms_store_sql.specs.declared.listing.meta.Meta.{Meta}
use Rattle.sms_store_sql.specs.declared.listing.meta.StoreKind.{StoreKind}
use Rattle.sms_store_sql.specs.declared.listing.meta.StoreKind.TheVariants.{Handset, Centre}

abbrev pub same_kind : StoreKind → StoreKind → Bool
same_kind Handset Handset = true
same_kind Handset Centre = false
same_kind Centre Handset = false
same_kind Centre Centre = true

-- one row of that kind, and of that version: an earlier one is old, and all else is no such store
abbrev pub judged : StoreKind → ℕ → List Meta → Result (Unit {0}) KeepError
judged kind version [] = Err NotThisStore
judged kind version (meta ∷ []) =
    if same_kind meta.kind kind then
    (if nat_lt version meta.version then Err NotThisStore
    else if nat_lt meta.version version then Err OldVersion
    else Ok tt)
    else Err NotThisStore
judged kind version (meta ∷ other ∷ more) = Err NotThisStore

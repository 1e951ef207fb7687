-- The table that says what a store is, is a list.
use Rattle.std.proofs.Common.{refl}
use Rattle.sqlite.specs.Schema.{Schema}
use Rattle.sqlite_tied.specs.Compute.{everything}
use Rattle.sms_store_sql.specs.listing.Listing.{IsList}
use Rattle.sms_store_sql.specs.listing.Meta.{kind_back}
use Rattle.sms_store_sql.specs.tabled.MetaTable.{HasMeta, meta_list_in}
use Rattle.sms_store_sql.specs.tabled.Tabled.{AgreesInItsKey, IsReadBack}
use Rattle.sms_store_sql.proofs.listing.Columns.{one_found, cast_int}
use Rattle.sms_store_sql.proofs.tabled.Listed.{listed}

module _ (schema : Schema) where
  reads_back : IsReadBack (meta_list_in schema)
  reads_back x fits = let k = kind_back x.kind in λ i. record { version = x.version; kind = k i }

  agrees : AgreesInItsKey (meta_list_in schema)
  unfolding everything
  agrees x id new y = refl

  pub meta_listed : HasMeta schema → IsList (meta_list_in schema)
  meta_listed has =
      listed (meta_list_in schema) (has, agrees) (λ x. refl) (λ id x. refl) (λ x id y. refl) (λ x. (cast_int _, (refl, tt)))
      (λ n id x fits. one_found x.version n) (λ x id y fits suits. one_found y.version x.version)
      reads_back

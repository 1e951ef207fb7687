-- What kind of store it is, and of which version.
use Rattle.std.specs.Prelude.{refl}
use Rattle.sqlite.specs.Listing.{understood}
use Rattle.sqlite_tied.specs.Compute.{everything}
use Rattle.sms_store_sql.specs.listing.Listing.{ListOf, IsList}
use Rattle.sms_store_sql.specs.tabled.MetaTable.{HasMeta, meta_list_in}
use Rattle.sms_store_sql.specs.tabled.Tabled.{computed}
use Rattle.sms_store_sql.proofs.tabled.Metas.{meta_listed}
use Rattle.sms_store_tables.specs.handset.HandsetSchema.{handset_schema}
use Rattle.sms_store_tables.specs.handset.Types.{Meta}

abbrev pub meta_list : ListOf Meta
meta_list = meta_list_in handset_schema

there : HasMeta handset_schema
unfolding understood everything
there =
    computed (meta_list_in handset_schema).table refl (refl, (refl, refl)) (refl, (refl, refl)) (refl, (refl, refl)) (refl, (refl, refl)) refl (λ db. refl)
    (λ keys olds news. refl) refl

pub meta_is_list : IsList meta_list
meta_is_list = meta_listed handset_schema there

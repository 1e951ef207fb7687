-- What kind of store it is, and of which version.
use Rattle.std.specs.Prelude.{refl}
use Rattle.sqlite.specs.Listing.{understood}
use Rattle.sqlite_tied.specs.Compute.{everything}
use Rattle.sms_store_sql.specs.listing.Listing.{ListOf, IsList}
use Rattle.sms_store_sql.specs.tabled.MetaTable.{HasMeta, meta_list_in}
use Rattle.sms_store_sql.specs.tabled.Tabled.{computed}
use Rattle.sms_store_sql.proofs.tabled.Metas.{meta_listed}
use Rattle.sms_store_tables.specs.centre.CentreSchema.{centre_schema, first_schema, second_schema}
use Rattle.sms_store_tables.specs.centre.Types.{Meta}

abbrev pub meta_list : ListOf Meta
meta_list = meta_list_in centre_schema

there : HasMeta centre_schema
unfolding understood everything
there =
    computed (meta_list_in centre_schema).table refl (refl, (refl, refl)) (refl, (refl, refl)) (refl, (refl, refl)) (refl, (refl, refl)) refl (λ db. refl)
    (λ keys olds news. refl) refl

pub meta_is_list : IsList meta_list
meta_is_list = meta_listed centre_schema there

-- ---- in a store of version 2

abbrev pub second_list : ListOf Meta
second_list = meta_list_in second_schema

second_there : HasMeta second_schema
unfolding understood everything
second_there =
    computed (meta_list_in second_schema).table refl (refl, (refl, refl)) (refl, (refl, refl)) (refl, (refl, refl)) (refl, (refl, refl)) refl (λ db. refl)
    (λ keys olds news. refl) refl

pub second_is_list : IsList second_list
second_is_list = meta_listed second_schema second_there

-- ---- and of version 1

abbrev pub first_list : ListOf Meta
first_list = meta_list_in first_schema

first_there : HasMeta first_schema
unfolding understood everything
first_there =
    computed (meta_list_in first_schema).table refl (refl, (refl, refl)) (refl, (refl, refl)) (refl, (refl, refl)) (refl, (refl, refl)) refl (λ db. refl)
    (λ keys olds news. refl) refl

pub first_is_list : IsList first_list
first_is_list = meta_listed first_schema first_there

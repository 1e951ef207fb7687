-- Tables and their indexes stand apart.
use Rattle.std.proofs.Common.{◌≡◌, ◌≢◌, ℕ, false}
use Rattle.sqlite.specs.Effect.{Database}
use Rattle.sms_store_sql.proofs.listing.Apart.{is_no_index, is_other, meets}
use Rattle.sms_store_tables.specs.centre.CentreSchema.{centre_schema}
use Rattle.sms_store_migration.specs.Migrating.{KeepsOthers}

-- what stands apart stays
pub stays : (changed : ℕ) (before after : Database) → KeepsOthers changed before after → (tree : ℕ) → meets centre_schema changed tree ≡ false
    → after.trees tree ≡ before.trees tree
stays changed before after kept tree apart = kept tree (is_other centre_schema changed tree apart) (is_no_index centre_schema changed tree apart)

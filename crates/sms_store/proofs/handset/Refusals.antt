-- A handset's store that is refused by what it says of itself.
use Rattle.std.proofs.Common.{◌≡◌, ◌⊎◌, inr, Result, Err}
use Rattle.sqlite.specs.Effect.{Database}
use Rattle.sms_rows.specs.declared.keep.error.KeepError.{KeepError}
use Rattle.sms_rows.specs.declared.keep.error.KeepError.TheVariants.{OldVersion, NotThisStore}
use Rattle.sms_store_sql.specs.declared.listing.meta.StoreKind.TheVariants.{Handset}
use Rattle.sms_store_sql.specs.listing.Causes.{IsOfNoStore}
use Rattle.sms_store_tables.specs.handset.HandsetSchema.{handset_schema}
use Rattle.sms_store_tables.specs.handset.MetaList.{meta_list}
use Rattle.sms_store.specs.keeping.Refusing.{FindsJudgement}
use Rattle.sms_store.specs.handset.Refusing.{SaysNow, IsOld, IsOther, Refuses}
use Rattle.sms_store.proofs.keeping.Openings.{refuses_for, refuses_found}

pub refuses_judged : (db : Database) (error : KeepError) → db.schema ≡ handset_schema → IsOfNoStore error ⊎ FindsJudgement meta_list Handset 1 db (Err error)
    → Refuses error db
refuses_judged db error ours found =
    refuses_for (SaysNow (Err OldVersion)) (SaysNow (Err NotThisStore)) IsOld IsOther db (λ says. says) (λ says. inr says) error
    (refuses_found handset_schema meta_list Handset 1 db error ours found)

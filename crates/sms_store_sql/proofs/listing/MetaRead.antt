-- The words of the kinds of stores are texts.
use Rattle.std.proofs.Common.{IsUtf8, codes, refl}
use Rattle.sms_store_sql.specs.declared.listing.meta.StoreKind.{StoreKind}
use Rattle.sms_store_sql.specs.declared.listing.meta.StoreKind.TheVariants.{Handset, Centre}
use Rattle.sms_store_sql.specs.listing.Meta.{kind_word}

pub kind_utf8 : (kind : StoreKind) → IsUtf8 (kind_word kind)
unfolding lib.Utf8.encode
kind_utf8 Handset = (codes "handset", (refl, refl))
kind_utf8 Centre = (codes "centre", (refl, refl))

-- The kinds of stores.
use Rattle.std.specs.Prelude.{◌≡◌, ℕ, if◌then◌else◌, List, [], ◌∷◌, codes, refl}
use Rattle.sqlite.specs.declared.types.Value.TheVariants.{Text}
use Rattle.sqlite.specs.Order.{Row}
use Rattle.sms_store_sql.specs.declared.listing.meta.StoreKind.{StoreKind}
use Rattle.sms_store_sql.specs.declared.listing.meta.StoreKind.TheVariants.{Handset, Centre}
use Rattle.sms_store_sql.specs.declared.listing.meta.Meta.{Meta}
use Rattle.sms_store_sql.specs.listing.Columns.{is_word, number}

abbrev pub meta_key : Meta → ℕ
meta_key m = m.version

abbrev pub kind_word : StoreKind → List ℕ
kind_word Handset = codes "handset"
kind_word Centre = codes "centre"

abbrev pub kind_in : List ℕ → StoreKind
kind_in word = if is_word (codes "handset") word then Handset else Centre

pub kind_back : (kind : StoreKind) → kind_in (kind_word kind) ≡ kind
kind_back Handset = refl
kind_back Centre = refl

-- the columns of the row that says what a store is
abbrev pub meta_columns : Meta → Row
meta_columns meta = number meta.version ∷ Text (kind_word meta.kind) ∷ []

-- The table that says what a store is, and the list of its rows, whatever other tables the store has.
use Rattle.std.specs.Prelude.{[], ◌∷◌, codes}
use Rattle.sqlite.specs.declared.types.Value.TheVariants.{Text}
use Rattle.sqlite.specs.Kind.TheVariants as kinds
use Rattle.sqlite.specs.Schema.{Schema}
use Rattle.sqlite_value.specs.Order.{column}
use Rattle.sms_store_sql.specs.declared.listing.meta.Meta.{Meta}
use Rattle.sms_store_sql.specs.listing.Columns.{IsWord, number, number_in, text_in}
use Rattle.sms_store_sql.specs.listing.Listing.{ListOf, given}
use Rattle.sms_store_sql.specs.listing.Meta.{kind_word, kind_in}
use Rattle.sms_store_sql.specs.tabled.TablePlan.{TablePlan}
use Rattle.sms_store_sql.specs.tabled.Tabled.{IsTabled, rows_by_one, tabled}

abbrev pub meta_plan : TablePlan
meta_plan = record { name = codes "meta"; columns = given (codes "version") kinds.Integer ∷ given (codes "kind") kinds.Text ∷ []; key = 1 }

abbrev pub meta_list_in : Schema → ListOf Meta
meta_list_in schema =
    rows_by_one Meta (tabled schema 0 0 meta_plan) (λ x. x.version) (λ m. number m.version ∷ Text (kind_word m.kind) ∷ [])
    (λ row. record { version = number_in (column row 0); kind = kind_in (text_in (column row 1)) })
    (λ m. IsWord m.version)

-- the table is there, and is a list
abbrev pub HasMeta : Schema → Type 0
HasMeta schema = IsTabled (tabled schema 0 0 meta_plan)
